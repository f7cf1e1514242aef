-- A list with a change where none of its name is has that one more.
use Rattle.std.proofs.Common.{◌≡◌, sym, subst, inl, inr, false, List, [], ◌∷◌, ◌++◌, append-nil}
use Rattle.pj_change.specs.declared.change.Record.{Record}
use Rattle.pj_change.specs.Lawful.{is_held}
use Rattle.pj_change.proofs.LawfulLists.{append_cases, middle_cases, first_part, second_part}
use Rattle.pj_change.proofs.Members.{before_member, middle_member, after_member}
use Rattle.pj_view.specs.Touched.{HasOneMore}

-- wherever it stands
pub one_more_between : (before : List Record) (r : Record) (after : List Record) → is_held (before ++ after) r.name ≡ false →
    HasOneMore (before ++ after) (before ++ r ∷ after) r
one_more_between before r after fresh = record {
  kept = λ s m. elim (append_cases before after s m) [
    | inl b ↦ before_member before after r s b
    | inr a ↦ after_member before after r s a
  ];
  new = middle_member before after r;
  only = λ s m. elim (middle_cases before r after s m) [
    | inl b ↦ inl (first_part before after s b)
    | inr rest ↦ elim rest [
      | inl same ↦ inr (sym same)
      | inr a ↦ inl (second_part before after s a)
    ]
  ];
  fresh = fresh;
}

-- at the end
pub one_more_last : (list : List Record) (r : Record) → is_held list r.name ≡ false → HasOneMore list (list ++ r ∷ []) r
one_more_last list r fresh =
    subst (λ l. HasOneMore l (list ++ r ∷ []) r) (append-nil list)
    (one_more_between list r [] (subst (λ l. is_held l r.name ≡ false) (sym (append-nil list)) fresh))
