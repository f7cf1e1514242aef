-- The linked sets that are taken out of a list of classes, one after the other.
use Rattle.std.proofs.Common.{◌≡◌, ◌≢◌, ℕ, ◌+◌, ◌<◌, ◌≤◌, Bool, true, false, List, [], ◌∷◌, ◌++◌, length, get_or, refl, sym, ◌∙◌, ap, subst, inl, inr, arith}
use Rattle.std.specs.Prelude.{◌⊎◌, Contains, All, AllPairs, Any}
use Rattle.std.specs.Ordering.{nat_cmp}
use Rattle.std.specs.List.Sorted.{IsStrictlySortedBy}
use Rattle.std.proofs.lemmas.Bool.{cases_lt, cases_eq}
use Rattle.std.proofs.lemmas.List.{length_push, get_or_append_left, get_or_push, get_or_default}
use Rattle.std.proofs.lemmas.List.Elements.{All-push, All-weaker, All-contains, Contains-get_or, Contains-append_left, Contains-push, Contains-push_cases}
use Rattle.pj_bits.specs.Row.{has}
use Rattle.pj_change.specs.Layout.{IsLinked, AreApart}
use Rattle.pj_layout.specs.Parts.{IsTaken, Precedes, StartsBefore, ArePartsOf}

-- ---- lists

AllPairs-push : {X : Type 0} (R : X → X → Type 0) (xs : List X) (x : X) → AllPairs R xs → All (λ y. R y x) xs → AllPairs R (xs ++ x ∷ [])
AllPairs-push R xs x pairs last i j d below inside =
    let long = length_push xs x in
    let at_i : get_or xs i d ≡ get_or (xs ++ x ∷ []) i d = sym (get_or_append_left xs (x ∷ []) d i (omega arith)) in
    elim (cases_lt j (length xs)) [
      | inl before ↦ subst (λ z. R z (get_or (xs ++ x ∷ []) j d)) at_i (subst (λ z. R (get_or xs i d) z) (sym (get_or_append_left xs (x ∷ []) d j before)) (pairs i j d below before))
      | inr past ↦
          let at_j : x ≡ get_or (xs ++ x ∷ []) j d = sym (get_or_push xs x d j (omega arith)) in
          subst (λ z. R z (get_or (xs ++ x ∷ []) j d)) at_i (subst (λ z. R (get_or xs i d) z) at_j (last i d (omega arith)))
    ]

-- x is in a part
abbrev pub InPart : List (List ℕ) → ℕ → Type 0
InPart parts x = Any (λ part. Contains part x) parts

in_part : (parts : List (List ℕ)) (part : List ℕ) (x : ℕ) → Contains parts part → Contains part x → InPart parts x
in_part parts part x at m = (at.0, part, at.1, at.2, m)

in_earlier : (parts : List (List ℕ)) (new : List ℕ) (x : ℕ) → InPart parts x → InPart (parts ++ new ∷ []) x
in_earlier parts new x p = in_part (parts ++ new ∷ []) p.1 x (Contains-append_left parts (new ∷ []) p.1 (p.0, p.2, p.3)) p.4

in_last : (parts : List (List ℕ)) (new : List ℕ) (x : ℕ) → Contains new x → InPart (parts ++ new ∷ []) x
in_last parts new x m = in_part (parts ++ new ∷ []) new x (Contains-push parts new) m

in_cases : (parts : List (List ℕ)) (new : List ℕ) (x : ℕ) → InPart (parts ++ new ∷ []) x → InPart parts x ⊎ Contains new x
in_cases parts new x p = elim (Contains-push_cases parts new p.1 (p.0, p.2, p.3)) [
  | inl at ↦ inl (in_part parts p.1 x at p.4)
  | inr e ↦ inr (subst (λ part. Contains part x) (sym e) p.4)
]

-- ---- the parts so far

-- no member is in the rest or linked to it
abbrev pub IsApartFrom : (ℕ → ℕ → Type 0) → List Bool → List ℕ → Type 0
IsApartFrom link rest part = (x y : ℕ) → Contains part x → has rest y ≡ true → (x ≢ y) × (link x y → ⊥)

-- a member stands before all of the rest
abbrev pub StartsBeforeRest : List ℕ → List Bool → List ℕ → Type 0
StartsBeforeRest xs rest part = (x : ℕ) × Contains part x × ((y : ℕ) → has rest y ≡ true → Precedes xs x y)

-- the members of the list are in the parts or in the rest, the first ones in the parts
pub record ArePartsSoFar (link : ℕ → ℕ → Type 0) (xs : List ℕ) (done : ℕ) (rest : List Bool) (parts : List (List ℕ)) : Type 0 where
  pub listed : (x : ℕ) → InPart parts x → Contains xs x
  pub rest_listed : (x : ℕ) → has rest x ≡ true → Contains xs x
  pub all : (x : ℕ) → Contains xs x → InPart parts x ⊎ (has rest x ≡ true)
  pub first : (i : ℕ) → i < done → InPart parts (get_or xs i 0)
  pub sorted : All (IsStrictlySortedBy nat_cmp) parts
  pub nonempty : All (λ part. 0 < length part) parts
  pub linked : All (IsLinked link) parts
  pub apart : AllPairs (AreApart link) parts
  pub rest_apart : All (IsApartFrom link rest) parts
  pub started : AllPairs (StartsBefore xs) parts
  pub rest_starts : All (StartsBeforeRest xs rest) parts

module _ (link : ℕ → ℕ → Type 0) (xs : List ℕ) (done : ℕ) (rest : List Bool) (parts : List (List ℕ)) (s : ArePartsSoFar link xs done rest parts) where
  -- a member of a part is not in the rest
  part_not_rest : (x : ℕ) → InPart parts x → has rest x ≡ true → ⊥
  part_not_rest x p r = (All-contains (IsApartFrom link rest) parts p.1 s.rest_apart (p.0, p.2, p.3) x x p.4 r).0 refl

  -- the next class is in a part
  pub part_known : done < length xs → has rest (get_or xs done 0) ≡ false → ArePartsSoFar link xs (done + 1) rest parts
  part_known inside known = record {
    listed = s.listed;
    rest_listed = s.rest_listed;
    all = s.all;
    first = λ i h. elim (cases_lt i done) [
      | inl before ↦ s.first i before
      | inr past ↦ (let e : done ≡ i = omega arith in subst (λ k. InPart parts (get_or xs k 0)) e this)
    ];
    sorted = s.sorted;
    nonempty = s.nonempty;
    linked = s.linked;
    apart = s.apart;
    rest_apart = s.rest_apart;
    started = s.started;
    rest_starts = s.rest_starts;
  }
    where
      this : InPart parts (get_or xs done 0)
      this = elim (s.all (get_or xs done 0) (Contains-get_or xs done 0 inside)) [ inl p ↦ p | inr r ↦ absurd cc ]

  -- the next class begins a part
  module _ (rest' : List Bool) (part : List ℕ) (t : IsTaken link rest rest' (get_or xs done 0) part) where
    precedes_rest : (y : ℕ) → has rest' y ≡ true → Precedes xs (get_or xs done 0) y
    precedes_rest y r = elim (cases_lt done m.0) [
      | inl after ↦ (done, m.0, after, m.1, refl, at_y)
      | inr low ↦ elim (cases_eq m.0 done) [
        | inl same ↦ absurd (t.gone (get_or xs done 0) t.start_in (subst (λ z. has rest' z ≡ true) (sym at_y ∙ ap (λ k. get_or xs k 0) same) r))
        | inr other ↦ absurd (part_not_rest y (subst (InPart parts) at_y (s.first m.0 (omega arith))) (t.others y r))
      ]
    ]
      where
        m : Contains xs y
        m = s.rest_listed y (t.others y r)

        at_y : get_or xs m.0 0 ≡ y
        at_y = get_or_default xs m.0 0 y m.1 ∙ m.2

    pub part_more : ArePartsSoFar link xs (done + 1) rest' (parts ++ part ∷ [])
    part_more = record {
      listed = λ x p. elim (in_cases parts part x p) [ inl q ↦ s.listed x q | inr m ↦ s.rest_listed x (t.were x m) ];
      rest_listed = λ x r. s.rest_listed x (t.others x r);
      all = λ x m. elim (s.all x m) [
        | inl p ↦ inl (in_earlier parts part x p)
        | inr r ↦ elim (t.all x r) [ inl n ↦ inl (in_last parts part x n) | inr q ↦ inr q ]
      ];
      first = λ i h. elim (cases_lt i done) [
        | inl before ↦ in_earlier parts part (get_or xs i 0) (s.first i before)
        | inr past ↦ (let e : done ≡ i = omega arith in in_last parts part (get_or xs i 0) (subst (λ k. Contains part (get_or xs k 0)) e t.start_in))
      ];
      sorted = All-push (IsStrictlySortedBy nat_cmp) parts part s.sorted t.sorted;
      nonempty = All-push (λ p. 0 < length p) parts part s.nonempty (omega (arith, t.start_in.1));
      linked = All-push (IsLinked link) parts part s.linked t.linked;
      apart = AllPairs-push (AreApart link) parts part s.apart (All-weaker (IsApartFrom link rest) (λ p. AreApart link p part) (λ p f x y m n. f x y m (t.were y n)) parts s.rest_apart);
      rest_apart = All-push (IsApartFrom link rest') parts part
          (All-weaker (IsApartFrom link rest) (IsApartFrom link rest') (λ p f x y m r. f x y m (t.others y r)) parts s.rest_apart)
          (λ x y m r. (λ e. t.gone x m (subst (λ z. has rest' z ≡ true) (sym e) r), t.apart x y m r));
      started = AllPairs-push (StartsBefore xs) parts part s.started (All-weaker (StartsBeforeRest xs rest) (λ p. StartsBefore xs p part) (λ p f. (f.0, f.1, λ y m. f.2 y (t.were y m))) parts s.rest_starts);
      rest_starts = All-push (StartsBeforeRest xs rest') parts part
          (All-weaker (StartsBeforeRest xs rest) (StartsBeforeRest xs rest') (λ p f. (f.0, f.1, λ y r. f.2 y (t.others y r))) parts s.rest_starts)
          (get_or xs done 0, t.start_in, precedes_rest);
    }

  -- all classes are in parts
  pub parts_all : length xs ≤ done → ArePartsOf link xs parts
  parts_all end = record {
    members = λ x. (λ m. subst (InPart parts) (get_or_default xs m.0 0 x m.1 ∙ m.2) (s.first m.0 (omega (arith, m.1))), s.listed x);
    sorted = s.sorted;
    nonempty = s.nonempty;
    linked = s.linked;
    apart = s.apart;
    started = s.started;
  }
