-- Points that are added to a list, one after the other.
use Rattle.std.proofs.Common.{◌≡◌, ℕ, ◌+◌, ◌<◌, ◌≤◌, List, [], ◌∷◌, ◌++◌, length, take, get_or, sym, ◌∙◌, ap, subst, inl, inr}
use Rattle.std.specs.Prelude.{Contains, ◌⊎◌}
use Rattle.std.proofs.lemmas.List.{take_all, take_more}
use Rattle.pj_change.specs.declared.point.Point.{Point}
use Rattle.pj_change.proofs.LawfulLists.{append_cases, first_part, second_part}
use Rattle.pj_change.proofs.Members.{first_member, same_member, moved, no_member, uncons}
use Rattle.pj_change.specs.declared.change.Record.{Record}
use Rattle.pj_dead.specs.Searches.{GoesOn}
use Rattle.pj_dead.proofs.Searching.{goes_kept}
use Rattle.pj_view.specs.Added.{HasAdded, HasAddedAs, HasEntry, itself, ahead, StandsToOne}

-- ---- places in a list

-- a member of a list is one of each list with the members of that
pub member_stays : (l m : List Point) → ((p : Point) → Contains l p → Contains m p) → (p : Point) → Contains l p → Contains m p
member_stays l m more p = more p

-- and so is an entry
pub entry_stays : (S : List Record) (l m : List Point) → ((p : Point) → Contains l p → Contains m p) → (p : Point) → HasEntry S l p → HasEntry S m p
entry_stays S l m more p (itself n) = itself (more p n)
entry_stays S l m more p (ahead v is has q n lies upto) = ahead v is has q (more q n) lies upto

-- ---- points that are added

-- none of them
pub none_added : {In : List Point → Point → Type 0} (ps : List Point) (P : Point → Type 0) → ((p : Point) → P p → ⊥) → HasAddedAs In ps ps P
none_added ps P none = record { kept = λ p m. m; added = λ p s. absurd (none p s) }

-- fewer of them
pub fewer_added : {In : List Point → Point → Type 0} (before later : List Point) (P Q : Point → Type 0) → ((p : Point) → Q p → P p) → HasAddedAs In before later P → HasAddedAs In before later Q
fewer_added before later P Q fewer h = record { kept = h.kept; added = λ p s. h.added p (fewer p s) }

-- one
pub one_added : (before later : List Point) (p : Point) → later ≡ before ++ p ∷ [] → HasAdded before later (λ q. p ≡ q)
one_added before later p is = record {
  kept = λ q m. moved q (sym is) (first_part before (p ∷ []) q m);
  added = λ q e. moved q (sym is) (second_part before (p ∷ []) q (same_member (p ∷ []) e (first_member p [])));
}

-- all of a list
pub some_added : (before later more : List Point) → later ≡ before ++ more → HasAdded before later (Contains more)
some_added before later more is = record { kept = λ p m. moved p (sym is) (first_part before more p m); added = λ p m. moved p (sym is) (second_part before more p m) }

-- all of which a list goes on with
pub goes_added : (before later : List Point) (P : Point → Type 0) → GoesOn P before later → HasAdded before later P
goes_added before later P goes = record { kept = goes_kept P before later goes; added = goes.all }

-- some, and then others
pub both_added : {In : List Point → Point → Type 0} → ((l m : List Point) → ((p : Point) → Contains l p → Contains m p) → (p : Point) → In l p → In m p) →
    (before middle later : List Point) (P Q R : Point → Type 0) → HasAddedAs In before middle P → HasAddedAs In middle later Q → ((p : Point) → R p → P p ⊎ Q p) → HasAddedAs In before later R
both_added stays before middle later P Q R a b parts = record {
  kept = λ p m. b.kept p (a.kept p m);
  added = λ p s. elim (parts p s) [ inl x ↦ stays middle later b.kept p (a.added p x) | inr y ↦ b.added p y ];
}

-- one more of some things is the last one
taken_cases : {X : Type 0} (things : List X) (i : ℕ) (x : X) → i < length things → x ≡ get_or things i x → (y : X) → Contains (take (i + 1) things) y → Contains (take i things) y ⊎ (x ≡ y)
taken_cases things i x low is y m =
    let more = take_more things i x low ∙ ap (λ z. take i things ++ z ∷ []) (sym is) in
    elim (append_cases (take i things) (x ∷ []) y (moved y more m)) [ inl n ↦ inl n | inr n ↦ elim (uncons x [] y n) [ inl e ↦ inr e | inr k ↦ absurd (no_member y k) ] ]

-- those of each of some things
module _ {In : List Point → Point → Type 0} {X : Type 0} where
  pub none_yet : (things : List X) (P : X → Point → Type 0) (ps : List Point) → HasAddedAs In ps ps (StandsToOne (take 0 things) P)
  none_yet things P ps = none_added ps (StandsToOne (take 0 things) P) (λ p s. no_member s.thing s.member)

  pub one_more : ((l m : List Point) → ((p : Point) → Contains l p → Contains m p) → (p : Point) → In l p → In m p) → (things : List X) (P : X → Point → Type 0) (before now later : List Point) (i : ℕ) (x : X) → i < length things → x ≡ get_or things i x →
      HasAddedAs In before now (StandsToOne (take i things) P) → HasAddedAs In now later (P x) → HasAddedAs In before later (StandsToOne (take (i + 1) things) P)
  one_more stays things P before now later i x low is was more =
      both_added stays before now later (StandsToOne (take i things) P) (P x) (StandsToOne (take (i + 1) things) P) was more
      (λ p s. elim (taken_cases things i x low is s.thing s.member) [
        | inl m ↦ inl (record { thing = s.thing; member = m; stands = s.stands })
        | inr e ↦ inr (subst (λ y. P y p) (sym e) s.stands)
      ])

  pub all_added : (things : List X) (P : X → Point → Type 0) (before later : List Point) (i : ℕ) → length things ≤ i → HasAddedAs In before later (StandsToOne (take i things) P) → HasAddedAs In before later (StandsToOne things P)
  all_added things P before later i past h = subst (λ l. HasAddedAs In before later (StandsToOne l P)) (take_all i things past) h
