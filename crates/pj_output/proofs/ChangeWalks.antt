-- What the changes of a list give, change by change.
use Rattle.std.proofs.Common.{◌≡◌, ◌∙◌, List, [], ◌∷◌, ◌++◌, sym, ap, subst, inl, inr, append_assoc, append-nil}
use Rattle.pj_change.specs.declared.change.Record.{Record}
use Rattle.pj_change.specs.Gathers.{Gathers, IsOfOne}
use Rattle.pj_change.proofs.Gathering.{gathers_both}
use Rattle.pj_change.proofs.LawfulLists.{append_cases, first_part, second_part}
use Rattle.pj_change.proofs.Members.{uncons, no_member, first_member}

module _ {X : Type 0} (P : Record → X → Type 0) (S : List Record) where
  -- what the changes before these give is there
  pub record AreBefore (rest : List Record) (list : List X) : Type 0 where
    pub front : List Record
    pub is : S ≡ front ++ rest
    pub gathers : Gathers (IsOfOne P front) [] list

  pub before_more : (rest later : List Record) (r : Record) (old new : List X) → AreBefore rest old → rest ≡ r ∷ later → Gathers (P r) old new → AreBefore later new
  before_more rest later r old new b e g = record {
    front = b.front ++ r ∷ [];
    is = b.is ∙ ap (λ l. b.front ++ l) e ∙ sym (append_assoc b.front (r ∷ []) later);
    gathers = gathers_both (IsOfOne P b.front) (P r) (IsOfOne P (b.front ++ r ∷ [])) [] old new
        (λ x h. elim (append_cases b.front (r ∷ []) h.one h.member) [
          | inl k ↦ inl (record { one = h.one; member = k; is = h.is })
          | inr k ↦ elim (uncons r [] h.one k) [ inl s ↦ inr (subst (λ o. P o x) (sym s) h.is) | inr n ↦ absurd (no_member h.one n) ]
        ])
        (λ x h. record { one = h.one; member = first_part b.front (r ∷ []) h.one h.member; is = h.is })
        (λ x h. record { one = r; member = second_part b.front (r ∷ []) r (first_member r []); is = h }) b.gathers g;
  }

  pub before_none : (rest : List Record) (list : List X) → AreBefore rest list → rest ≡ [] → Gathers (IsOfOne P S) [] list
  before_none rest list b e =
      let all : S ≡ b.front = b.is ∙ ap (λ l. b.front ++ l) e ∙ append-nil b.front in
      subst (λ l. Gathers (IsOfOne P l) [] list) (sym all) b.gathers
