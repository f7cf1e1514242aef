-- A change in a lawful list: none before it needs it, and it may be named first in a set.
use Rattle.std.proofs.Common.{◌≡◌, sym, subst, refl, zero, suc, ◌<◌, false, List, [], ◌∷◌, ◌++◌, length, get_or, inl, inr, arith, append-nil}
use Rattle.std.specs.Prelude.{Contains}
use Rattle.std.proofs.lemmas.List.{get_or_default}
use Rattle.pj_change.specs.declared.change.Record.{Record}
use Rattle.pj_change.specs.Lawful.{is_held, Follows, IsLawful}
use Rattle.pj_change.specs.Sets.{HaveSameMembers, HaveDistinctNames}
use Rattle.pj_change.specs.Unrecord.{MayLeave}
use Rattle.pj_change.proofs.DistinctRecords.{lawful_distinct}
use Rattle.pj_change.proofs.LawfulChanges.{applied_may_leave}
use Rattle.pj_change.proofs.LawfulLists.{append_cases, middle_cases, not_record, first_part, second_part}
use Rattle.pj_change.proofs.Members.{first_member, later_member, uncons, before_member, middle_member, after_member, moved}
use Rattle.pj_contest.specs.Contests.{IsFree}

-- ---- a change first, or where it stands

module _ (before : List Record) (r : Record) (after : List Record) where
  pub to_middle : (s : Record) → Contains (r ∷ (before ++ after)) s → Contains (before ++ r ∷ after) s
  to_middle s m = elim (uncons r (before ++ after) s m) [
    | inl same ↦ subst (λ x. Contains (before ++ r ∷ after) x) same (middle_member before after r)
    | inr others ↦ elim (append_cases before after s others) [
      | inl b ↦ before_member before after r s b
      | inr a ↦ after_member before after r s a
    ]
  ]

  pub to_front : (s : Record) → Contains (before ++ r ∷ after) s → Contains (r ∷ (before ++ after)) s
  to_front s m = elim (middle_cases before r after s m) [
    | inl b ↦ later_member r (before ++ after) s (first_part before after s b)
    | inr rest ↦ elim rest [
      | inl same ↦ subst (λ x. Contains (r ∷ (before ++ after)) x) same (first_member r (before ++ after))
      | inr a ↦ later_member r (before ++ after) s (second_part before after s a)
    ]
  ]

  -- the list has the members of the others and the change
  pub same_front : HaveSameMembers (r ∷ (before ++ after)) (before ++ r ∷ after)
  same_front = record { there = to_middle; back = to_front }

  -- where no change may need it, none of the others does, nor the change itself
  pub unneeded : MayLeave (before ++ r ∷ after) r.name → IsFree (before ++ after) r
  unneeded may d m needs = may.1 d.name (record { needing = d; member = to_middle d m; needs = needs; named = refl })

-- equal lists have the same members
pub same_list : (S T : List Record) → S ≡ T → HaveSameMembers S T
same_list S T same = record { there = λ r m. moved r same m; back = λ r m. moved r (sym same) m }

-- a change of another name may stand first
pub distinct_front : (list : List Record) (r : Record) → IsLawful list → is_held list r.name ≡ false → HaveDistinctNames (r ∷ list)
distinct_front list r lawful fresh zero zero d less low e = absurd (omega arith)
distinct_front list r lawful fresh (suc i) zero d less low e = absurd (omega arith)
distinct_front list r lawful fresh zero (suc j) d less low e =
    let within : j < length list = omega arith in
    not_record list r.name fresh (get_or list j d) (record { member = (j, within, get_or_default list j (get_or list j d) d within); named = sym e })
distinct_front list r lawful fresh (suc i) (suc j) d less low e = lawful_distinct list lawful i j d (omega arith) (omega arith) e

-- ---- a change that follows a list

module _ (list : List Record) (r : Record) (lawful : IsLawful list) (follows : Follows list r) where
  pub same_last : HaveSameMembers (r ∷ list) (list ++ r ∷ [])
  same_last = subst (λ l. HaveSameMembers (r ∷ l) (list ++ r ∷ [])) (append-nil list) (same_front list r [])

  pub unneeded_yet : IsFree list r
  unneeded_yet = subst (λ l. IsFree l r) (append-nil list) (unneeded list r [] (applied_may_leave list r lawful follows))
