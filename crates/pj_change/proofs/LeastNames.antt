-- The least of some names: of a list by a fold, and of a rising list by a search from the front.
use Rattle.std.proofs.Common.{◌≡◌, List, [], ◌∷◌, refl, sym, ◌∙◌, ap, subst, inl, inr, Bool, true, false, find}
use Rattle.std.specs.Prelude.{Contains, ◌⊎◌, ◌↔◌, Option, Some, MatchOption}
use Rattle.std.specs.Cmp.{IsStrictWeakOrder}
use Rattle.std.specs.List.{fold, reduce}
use Rattle.std.specs.declared.cmp.Ordering.{Ordering}
use Rattle.std.specs.declared.cmp.Ordering.TheVariants.{Less, Equal, Greater}
use Rattle.std.specs.Cmp.Lexicographic.{bytes_decides}
use Rattle.std.proofs.lemmas.Map.Text.{is_eq-slice_cmp}
use Rattle.std.specs.Ordering.{is_eq, is_lt, min_by_ordering, ordering_reverse}
use Rattle.std.proofs.lemmas.Bool.{and_parts}
use Rattle.std.proofs.lemmas.List.MinMax.{ranks_by}
use Rattle.pj_name.specs.declared.name.Name.{Name}
use Rattle.pj_name.specs.Name.{name_cmp, name_below}
use Rattle.pj_name.proofs.Names.{name_cmp-total, names_by_bytes}
use Rattle.pj_change.specs.Rules.{rising}
use Rattle.pj_change.proofs.Members.{uncons, first_member, later_member, no_member, same_member}
use Rattle.pj_change.specs.Least.{IsLeast}
use Rattle.pj_change.proofs.RisingLemmas.{rising_rest}

order : IsStrictWeakOrder name_below
order = ranks_by name_cmp-total (λ (n : Name). n)

pub not_below_itself : (n : Name) → name_below n n ≡ false
not_below_itself n = go (name_below n n) refl
  where
    go : (b : Bool) → name_below n n ≡ b → name_below n n ≡ false
    go true h = order.one_way n n h
    go false h = h

-- names neither of which is below the other are one
tied : (m n : Name) (o : Ordering) → name_cmp m n ≡ o → name_below m n ≡ false → name_below n m ≡ false → m ≡ n
tied m n Less e a b = absurd (let h : name_below m n ≡ true = ap is_lt e in cc)
tied m n Equal e a b = names_by_bytes m n ((bytes_decides m.bytes n.bytes).0 (sym (is_eq-slice_cmp m.bytes n.bytes) ∙ ap is_eq e))
tied m n Greater e a b = absurd (let h : name_below n m ≡ true = ap is_lt (name_cmp-total.antisymm n m ∙ ap ordering_reverse e) in cc)

-- there is at most one least name
pub only_least : (P : Name → Type 0) (m n : Name) → IsLeast P m → IsLeast P n → m ≡ n
only_least P m n a b = tied m n (name_cmp m n) refl (b.none_below m a.one) (a.none_below n b.one)

-- ---- by a fold

-- the lesser of two names, and the first where they tie
abbrev pub lesser : Name → Name → Name
lesser m n = min_by_ordering (name_cmp m n) m n

record IsLesser (m n least : Name) : Type 0 where
  one : (m ≡ least) ⊎ (n ≡ least)
  first : name_below m least ≡ false
  second : name_below n least ≡ false

lesser_by : (m n : Name) (o : Ordering) → name_cmp m n ≡ o → IsLesser m n (min_by_ordering o m n)
lesser_by m n Less e =
    let h : name_below m n ≡ true = ap is_lt e in
    record { one = inl refl; first = not_below_itself m; second = order.one_way m n h }
lesser_by m n Equal e =
    let h : name_below n m ≡ false = ap is_lt (name_cmp-total.antisymm n m ∙ ap ordering_reverse e) in
    record { one = inl refl; first = not_below_itself m; second = h }
lesser_by m n Greater e =
    let h : name_below m n ≡ false = ap is_lt e in
    record { one = inr refl; first = h; second = not_below_itself n }

lesser_is : (m n : Name) → IsLesser m n (lesser m n)
lesser_is m n = lesser_by m n (name_cmp m n) refl

-- one that is not above the lesser of two
below_lesser : (m n : Name) (names : List Name) (least : Name) → IsLeast (Contains (lesser m n ∷ names)) least → IsLeast (Contains (m ∷ n ∷ names)) least
below_lesser m n names least h = record { one = there (uncons (lesser m n) names least h.one); none_below = none }
  where
    in_rest : Contains names least → Contains (m ∷ n ∷ names) least
    in_rest k = later_member m (n ∷ names) least (later_member n names least k)

    of_two : (m ≡ lesser m n) ⊎ (n ≡ lesser m n) → lesser m n ≡ least → Contains (m ∷ n ∷ names) least
    of_two p e = elim p [
      | inl k ↦ same_member (m ∷ n ∷ names) (k ∙ e) (first_member m (n ∷ names))
      | inr k ↦ same_member (m ∷ n ∷ names) (k ∙ e) (later_member m (n ∷ names) n (first_member n names))
    ]

    there : (lesser m n ≡ least) ⊎ Contains names least → Contains (m ∷ n ∷ names) least
    there p = elim p [ inl e ↦ of_two (lesser_is m n).one e | inr k ↦ in_rest k ]

    low : name_below (lesser m n) least ≡ false
    low = h.none_below (lesser m n) (first_member (lesser m n) names)

    none : (x : Name) → Contains (m ∷ n ∷ names) x → name_below x least ≡ false
    none x k = elim (uncons m (n ∷ names) x k) [
      | inl e ↦ ap (λ z. name_below z least) (sym e) ∙ order.chain m (lesser m n) least (lesser_is m n).first low
      | inr l ↦ elim (uncons n names x l) [
        | inl e ↦ ap (λ z. name_below z least) (sym e) ∙ order.chain n (lesser m n) least (lesser_is m n).second low
        | inr r ↦ h.none_below x (later_member (lesser m n) names x r)
      ]
    ]

alone : (m : Name) → IsLeast (Contains (m ∷ [])) m
alone m = record {
  one = first_member m [];
  none_below = λ x k. elim (uncons m [] x k) [
    | inl e ↦ ap (λ z. name_below z m) (sym e) ∙ not_below_itself m
    | inr l ↦ absurd (no_member x l)
  ];
}

fold_least : (m : Name) (names : List Name) → IsLeast (Contains (m ∷ names)) (fold lesser m names)
fold_least m [] = alone m
fold_least m (n ∷ names) = below_lesser m n names (fold lesser (lesser m n) names) (fold_least (lesser m n) names)

-- what the fold gives, of names that have something
pub reduce_least : (names : List Name) (P : Name → Type 0) (r : Option Name) → r ≡ reduce lesser names → ((n : Name) → Contains names n ↔ P n) →
    MatchOption r ((n : Name) → P n → ⊥) (IsLeast P)
reduce_least [] P r e has = subst (λ o. MatchOption o ((n : Name) → P n → ⊥) (IsLeast P)) (sym e) (λ n h. no_member n ((has n).1 h))
reduce_least (m ∷ names) P r e has =
    let l = fold_least m names in
    subst (λ o. MatchOption o ((n : Name) → P n → ⊥) (IsLeast P)) (sym e)
    (record { one = (has (fold lesser m names)).0 l.one; none_below = λ n h. l.none_below n ((has n).1 h) })

-- ---- in a rising list

-- no later name is below the first
later_above : (m : Name) (names : List Name) → rising name_below (m ∷ names) ≡ true → (n : Name) → Contains names n → name_below n m ≡ false
unfolding rising
later_above m [] h n k = absurd (no_member n k)
later_above m (l ∷ names) h n k =
    let p = and_parts (name_below m l) (rising name_below (l ∷ names)) h in
    elim (uncons l names n k) [
      | inl e ↦ ap (λ z. name_below z m) (sym e) ∙ order.one_way m l p.0
      | inr j ↦ order.chain n l m (later_above l names p.1 n j) (order.one_way m l p.0)
    ]

pub record IsPicked (p : Name → Bool) (names : List Name) (name : Name) : Type 0 where
  pub member : Contains names name
  pub passes : p name ≡ true

-- the first that passes is the least
module _ (p : Name → Bool) where
  least_later : (m : Name) (names : List Name) (name : Name) → p m ≡ false → IsLeast (IsPicked p names) name → IsLeast (IsPicked p (m ∷ names)) name
  least_later m names name h l = record {
    one = record { member = later_member m names name l.one.member; passes = l.one.passes };
    none_below = λ n k. elim (uncons m names n k.member) [
      | inl e ↦ absurd (let f = k.passes in let g : p n ≡ false = ap p (sym e) ∙ h in cc)
      | inr j ↦ l.none_below n (record { member = j; passes = k.passes })
    ];
  }

  least_first : (m : Name) (names : List Name) → rising name_below (m ∷ names) ≡ true → p m ≡ true → IsLeast (IsPicked p (m ∷ names)) m
  least_first m names up h = record {
    one = record { member = first_member m names; passes = h };
    none_below = λ n k. elim (uncons m names n k.member) [
      | inl e ↦ ap (λ z. name_below z m) (sym e) ∙ not_below_itself m
      | inr j ↦ later_above m names up n j
    ];
  }

  found_by : (m : Name) (names : List Name) (name : Name) → rising name_below (m ∷ names) ≡ true →
      (find p names ≡ Some name → IsLeast (IsPicked p names) name) → find p (m ∷ names) ≡ Some name → (b : Bool) → p m ≡ b → IsLeast (IsPicked p (m ∷ names)) name
  found_by m names name up rest e true h =
      let k : Some m ≡ Some name = sym (let f : find p (m ∷ names) ≡ Some m = rw h refl in f) ∙ e in
      let same : m ≡ name = cc in
      subst (IsLeast (IsPicked p (m ∷ names))) same (least_first m names up h)
  found_by m names name up rest e false h =
      least_later m names name h (rest (sym (let f : find p (m ∷ names) ≡ find p names = rw h refl in f) ∙ e))

  pub find_least : (names : List Name) (name : Name) → rising name_below names ≡ true → find p names ≡ Some name → IsLeast (IsPicked p names) name
  find_least [] name up e = absurd (cc)
  find_least (m ∷ names) name up e = found_by m names name up (find_least names name (rising_rest name_below m names up)) e (p m) refl
