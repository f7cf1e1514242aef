-- Each list has the linked sets that make it up, where links go both ways and can be told.
use Rattle.std.proofs.Common.{◌≡◌, ◌≢◌, ℕ, zero, suc, ◌<◌, Bool, true, false, List, [], ◌∷◌, length, get_or, map, nat_eq, refl, sym, ◌∙◌, ap, subst, inl, inr, arith}
use Rattle.std.specs.Prelude.{Contains, All, AllPairs, filter, not, ◌⊎◌, ◌||◌, ◌&&◌}
use Rattle.std.specs.List.{list_any}
use Rattle.std.specs.Ordering.{nat_cmp}
use Rattle.std.specs.List.Sorted.{IsStrictlySortedBy}
use Rattle.std.proofs.lemmas.Bool.{cases_Bool, eq-eqb, eqb-true, or_cases, or_right, and_parts, not_from_false, not-true, both_ways}
use Rattle.std.proofs.lemmas.List.{get_or_read}
use Rattle.std.proofs.lemmas.List.Elements.{Contains-get_or}
use Rattle.std.proofs.lemmas.List.Kept.{IsStrictlySortedBy-filter}
use Rattle.pj_change.specs.Layout.{IsChain, here, on, IsLinked, AreApart}
use Rattle.pj_change.proofs.Members.{uncons, first_member, later_member, no_member, any_member, none_member, Passes, passes}
use Rattle.pj_change.proofs.Listings.{IsRelated}
use Rattle.pj_layout.specs.Parts.{Precedes, StartsBefore, ArePartsOf}
use Rattle.pj_layout.proofs.Filters.{filtered_member, member_filtered}

-- ---- relations between the members of a list

module _ {X : Type 0} (R : X → X → Type 0) where
  related_filter : (p : X → Bool) (xs : List X) → IsRelated R xs → IsRelated R (filter p xs)
  related_filter p [] r = tt
  related_filter p (x ∷ xs) r = go (p x) refl (related_filter p xs r.1)
    where
      go : (b : Bool) → p x ≡ b → IsRelated R (filter p xs) → IsRelated R (filter p (x ∷ xs))
      go true e rest = rw e ((λ y m. r.0 y (member_filtered p xs y m).0), rest)
      go false e rest = rw e rest

  -- two members that a test tells apart are related, where the relation goes both ways
  related_apart : (turn : (x y : X) → R x y → R y x) (p : X → Bool) (xs : List X) → IsRelated R xs → (x y : X) → Contains xs x → Contains xs y → p x ≡ true → p y ≡ false → R x y
  related_apart turn p [] r x y m n e f = absurd (no_member x m)
  related_apart turn p (z ∷ zs) r x y m n e f = cases (related_apart turn p zs r.1 x y) (uncons z zs x m) (uncons z zs y n)
    where
      cases : (Contains zs x → Contains zs y → p x ≡ true → p y ≡ false → R x y) → (z ≡ x) ⊎ Contains zs x → (z ≡ y) ⊎ Contains zs y → R x y
      cases rest (inl a) (inl b) = absurd (both_ways _ (ap p b ∙ f) (ap p a ∙ e))
      cases rest (inl a) (inr b) = subst (λ w. R w y) a (r.0 y b)
      cases rest (inr a) (inl b) = subst (λ w. R x w) b (turn z x (r.0 x a))
      cases rest (inr a) (inr b) = rest a b e f

  pairs_related : (xs : List X) → IsRelated R xs → AllPairs R xs
  pairs_related [] r i j d low high = absurd (omega arith)
  pairs_related (x ∷ xs) r zero zero d low high = absurd (omega arith)
  pairs_related (x ∷ xs) r zero (suc j) d low high = r.0 (get_or xs j d) (Contains-get_or xs j d (omega arith))
  pairs_related (x ∷ xs) r (suc i) zero d low high = absurd (omega arith)
  pairs_related (x ∷ xs) r (suc i) (suc j) d low high = pairs_related xs r.1 i j d (omega arith) (omega arith)

related_weaker : {X : Type 0} (R S : X → X → Type 0) → ((x y : X) → R x y → S x y) → (xs : List X) → IsRelated R xs → IsRelated S xs
related_weaker R S weaker [] r = tt
related_weaker R S weaker (x ∷ xs) r = ((λ y m. weaker x y (r.0 y m)), related_weaker R S weaker xs r.1)

-- the same where the first is a member
related_members : {X : Type 0} (R S : X → X → Type 0) (xs : List X) → ((x y : X) → Contains xs x → R x y → S x y) → IsRelated R xs → IsRelated S xs
related_members R S [] weaker r = tt
related_members R S (x ∷ xs) weaker r = ((λ y m. weaker x y (first_member x xs) (r.0 y m)), related_members R S xs (λ y z m. weaker y z (later_member x xs y m)) r.1)

-- ---- members of a map

module _ {X Y : Type 0} (f : X → Y) where
  mapped_member : (xs : List X) (x : X) → Contains xs x → Contains (map f xs) (f x)
  mapped_member [] x m = absurd (no_member x m)
  mapped_member (y ∷ ys) x m = elim (uncons y ys x m) [
    | inl e ↦ subst (λ z. Contains (f y ∷ map f ys) (f z)) e (first_member (f y) (map f ys))
    | inr n ↦ later_member (f y) (map f ys) (f x) (mapped_member ys x n)
  ]

  member_mapped : (xs : List X) (y : Y) → Contains (map f xs) y → (x : X) × Contains xs x × (f x ≡ y)
  member_mapped [] y m = absurd (no_member y m)
  member_mapped (x ∷ xs) y m = go (member_mapped xs y)
    where
      go : (Contains (map f xs) y → (z : X) × Contains xs z × (f z ≡ y)) → (z : X) × Contains (x ∷ xs) z × (f z ≡ y)
      go rest = elim (uncons (f x) (map f xs) y m) [
        | inl e ↦ (x, first_member x xs, e)
        | inr n ↦ (let k = rest n in (k.0, later_member x xs k.0 k.1, k.2))
      ]

  related_map : (R : Y → Y → Type 0) (xs : List X) → IsRelated (λ x y. R (f x) (f y)) xs → IsRelated R (map f xs)
  related_map R [] r = tt
  related_map R (x ∷ xs) r = ((λ y m. (let k = member_mapped xs y m in subst (λ z. R (f x) z) k.2 (r.0 k.0 k.1))), related_map R xs r.1)

all_members : {X : Type 0} (P : X → Type 0) (xs : List X) → ((x : X) → Contains xs x → P x) → All P xs
all_members P xs each k d low = each (get_or xs k d) (Contains-get_or xs k d low)

-- ---- chains

module _ (link : ℕ → ℕ → Type 0) where
  wider : {X Y : List ℕ} → ((x : ℕ) → Contains X x → Contains Y x) → {x y : ℕ} → IsChain link X x y → IsChain link Y x y
  wider within {x = x} (here m) = here (within x m)
  wider within (on {z = z} c l m) = on (wider within c) l (within z m)

  chain_then : {X : List ℕ} {x y z : ℕ} → IsChain link X x y → IsChain link X y z → IsChain link X x z
  chain_then c (here m) = c
  chain_then c (on d l m) = on (chain_then c d) l m

-- ---- the sets, each given by a test

module _ (link : ℕ → ℕ → Type 0) (test : ℕ → ℕ → Bool) (yes : (x y : ℕ) → test x y ≡ true → link x y) (no : (x y : ℕ) → test x y ≡ false → link x y → ⊥) (turn : (x y : ℕ) → link x y → link y x)
    (X : List ℕ) (rising : IsStrictlySortedBy nat_cmp X) where
  -- the members of X that pass
  abbrev set_of : (ℕ → Bool) → List ℕ
  set_of p = filter p X

  abbrev Apart : (ℕ → Bool) → (ℕ → Bool) → Type 0
  Apart p q = (x y : ℕ) → p x ≡ true → q y ≡ true → (x ≢ y) × (link x y → ⊥)

  abbrev Starts : List ℕ → (ℕ → Bool) → (ℕ → Bool) → Type 0
  Starts xs p q = (x : ℕ) × (p x ≡ true) × ((y : ℕ) → q y ≡ true → Precedes xs x y)

  record AreSets (xs : List ℕ) (tests : List (ℕ → Bool)) : Type 0 where
    listed : (p : ℕ → Bool) → Contains tests p → (x : ℕ) → p x ≡ true → Contains xs x
    all : (x : ℕ) → Contains xs x → (p : ℕ → Bool) × Contains tests p × (p x ≡ true)
    nonempty : (p : ℕ → Bool) → Contains tests p → (x : ℕ) × (p x ≡ true)
    linked : (p : ℕ → Bool) → Contains tests p → (x y : ℕ) → p x ≡ true → p y ≡ true → IsChain link (filter p X) x y
    apart : IsRelated (λ p q. (x y : ℕ) → p x ≡ true → q y ≡ true → (x ≢ y) × (link x y → ⊥)) tests
    started : IsRelated (λ p q. (x : ℕ) × (p x ≡ true) × ((y : ℕ) → q y ≡ true → Precedes xs x y)) tests

  no_sets : AreSets [] []
  no_sets = record {
    listed = λ p m. absurd (no_member p m);
    all = λ x m. absurd (no_member x m);
    nonempty = λ p m. absurd (no_member p m);
    linked = λ p m. absurd (no_member p m);
    apart = tt;
    started = tt;
  }

  -- x is linked to a member of the set, or is one
  abbrev joins : ℕ → (ℕ → Bool) → Bool
  joins x p = list_any (λ y. p y && (nat_eq x y || test x y)) X

  -- x, and the sets that it joins
  abbrev gathered : ℕ → List (ℕ → Bool) → ℕ → Bool
  gathered x tests z = nat_eq x z || list_any (λ p. p z) (filter (joins x) tests)

  module _ (x : ℕ) (xs : List ℕ) (tests : List (ℕ → Bool)) (x_in : Contains X x) (within : (z : ℕ) → Contains xs z → Contains X z) (s : AreSets xs tests) where
    abbrev others : List (ℕ → Bool)
    others = filter (λ p. not (joins x p)) tests

    itself : gathered x tests x ≡ true
    itself = (let e : nat_eq x x ≡ true = eq-eqb x x refl in rw e refl)

    gathers : (p : ℕ → Bool) → Contains tests p → joins x p ≡ true → (z : ℕ) → p z ≡ true → gathered x tests z ≡ true
    gathers p m j z e = or_right (nat_eq x z) (list_any (λ p. p z) (filter (joins x) tests)) (any_member (λ (q : ℕ → Bool). q z) (filter (joins x) tests) p (filtered_member (joins x) tests p m j) e)

    -- a member of the gathered set is x, or one of a joined set
    parts : (z : ℕ) → gathered x tests z ≡ true → (x ≡ z) ⊎ ((p : ℕ → Bool) × Contains tests p × (joins x p ≡ true) × (p z ≡ true))
    parts z e = elim (or_cases (nat_eq x z) (list_any (λ p. p z) (filter (joins x) tests)) e) [
      | inl same ↦ inl (eqb-true x z same)
      | inr among ↦ (
          let k = passes (λ (q : ℕ → Bool). q z) (filter (joins x) tests) among in
          let m = member_filtered (joins x) tests k.it k.member in
          inr (k.it, m.0, m.1, k.is)
          )
    ]

    other : (q : ℕ → Bool) → Contains (filter (λ p. not (joins x p)) tests) q → Contains tests q × (joins x q ≡ false)
    other q m = (let k = member_filtered (λ p. not (joins x p)) tests q m in (k.0, not-true (joins x q) k.1))

    wide : (p : ℕ → Bool) → Contains tests p → joins x p ≡ true → (z : ℕ) → Contains (filter p X) z → Contains (filter (gathered x tests) X) z
    wide p m j z n = (let k = member_filtered p X z n in filtered_member (gathered x tests) X z k.0 (gathers p m j z k.1))

    x_there : Contains (filter (gathered x tests) X) x
    x_there = filtered_member (gathered x tests) X x x_in itself

    -- x is linked to each gathered member, both ways
    record Hub (z : ℕ) : Type 0 where
      to : IsChain link (filter (gathered x tests) X) x z
      from : IsChain link (filter (gathered x tests) X) z x

    hub : (z : ℕ) → gathered x tests z ≡ true → Hub z
    hub z e = elim (parts z e) [
      | inl same ↦ record { to = subst (λ w. IsChain link (filter (gathered x tests) X) x w) same (here x_there); from = subst (λ w. IsChain link (filter (gathered x tests) X) w x) same (here x_there) }
      | inr k ↦ in_joined k.0 k.1 k.2 k.3 (passes (λ y. k.0 y && (nat_eq x y || test x y)) X k.2)
    ]
      where
        in_joined : (p : ℕ → Bool) → Contains tests p → joins x p ≡ true → p z ≡ true → Passes (λ y. p y && (nat_eq x y || test x y)) X → Hub z
        in_joined p m j at found =
            let y = found.it in
            let two = and_parts (p found.it) (nat_eq x found.it || test x found.it) found.is in
            let out = wider link (wide p m j) (s.linked p m found.it z two.0 at) in
            let back = wider link (wide p m j) (s.linked p m z found.it at two.0) in
            elim (or_cases (nat_eq x found.it) (test x found.it) two.1) [
              | inl same ↦ (let e : x ≡ found.it = eqb-true x found.it same in record { to = subst (λ w. IsChain link (filter (gathered x tests) X) w z) (sym e) out; from = subst (λ w. IsChain link (filter (gathered x tests) X) z w) (sym e) back })
              | inr tied ↦ (
                  let l = yes x found.it tied in
                  let y_there : Contains (filter (gathered x tests) X) found.it = wide p m j found.it (filtered_member p X found.it found.member two.0) in
                  record { to = chain_then link (on (here x_there) l y_there) out; from = on back (turn x found.it l) x_there }
                  )
            ]

    -- a set that x does not join is apart from the gathered one
    gathered_apart : (q : ℕ → Bool) → Contains tests q → joins x q ≡ false → (u v : ℕ) → gathered x tests u ≡ true → q v ≡ true → (u ≢ v) × (link u v → ⊥)
    gathered_apart q m f u v e g = elim (parts u e) [
      | inl same ↦ (
          let v_in : Contains X v = within v (s.listed q m v g) in
          let none : (q v && (nat_eq x v || test x v)) ≡ false = none_member (λ y. q y && (nat_eq x y || test x y)) X v f v_in in
          let clear = neither (q v) (nat_eq x v) (test x v) g none in
          ((λ t. (let h : nat_eq x v ≡ true = eq-eqb x v (same ∙ t) in both_ways _ clear.0 h)), (λ l. no x v clear.1 (subst (λ w. link w v) (sym same) l)))
          )
      | inr k ↦ related_apart Apart turned (joins x) tests s.apart k.0 q k.1 m k.2 f u v k.3 g
    ]
      where
        neither : (a b c : Bool) → a ≡ true → (a && (b || c)) ≡ false → (b ≡ false) × (c ≡ false)
        neither true true c h n = absurd (both_ways _ n refl)
        neither true false c h n = (refl, n)
        neither false b c h n = absurd (both_ways _ refl h)

        turned : (p r : ℕ → Bool) → Apart p r → Apart r p
        turned p r a w z h i = (let b = a z w i h in ((λ t. b.0 (sym t)), (λ l. b.1 (turn w z l))))

    shifted : (p q : ℕ → Bool) → Starts xs p q → Starts (x ∷ xs) p q
    shifted p q (w, e, each) = (w, e, λ y h. (let k = each y h in (suc k.0, suc k.1, omega (arith, k.2), omega (arith, k.3), k.4, k.5)))

    placed : (z : ℕ) → (p : ℕ → Bool) × Contains tests p × (p z ≡ true) → (p : ℕ → Bool) × Contains (gathered x tests ∷ filter (λ p. not (joins x p)) tests) p × (p z ≡ true)
    placed z (p, m, e) = elim (cases_Bool (joins x p)) [
      | inl j ↦ (gathered x tests, first_member (gathered x tests) others, gathers p m j z e)
      | inr f ↦ (p, later_member (gathered x tests) others p (filtered_member (λ q. not (joins x q)) tests p m (not_from_false (joins x p) f)), e)
    ]

    more_sets : AreSets (x ∷ xs) (gathered x tests ∷ filter (λ p. not (joins x p)) tests)
    more_sets = record {
      listed = λ p m z e. elim (uncons (gathered x tests) others p m) [
        | inl same ↦ (let g : gathered x tests z ≡ true = ap (λ f. f z) same ∙ e in elim (parts z g) [
          | inl at ↦ subst (λ w. Contains (x ∷ xs) w) at (first_member x xs)
          | inr k ↦ later_member x xs z (s.listed k.0 k.1 z k.3)
        ])
        | inr n ↦ later_member x xs z (s.listed p (other p n).0 z e)
      ];
      all = λ z m. elim (uncons x xs z m) [
        | inl same ↦ (gathered x tests, first_member (gathered x tests) others, subst (λ w. gathered x tests w ≡ true) same itself)
        | inr later ↦ placed z (s.all z later)
      ];
      nonempty = λ p m. elim (uncons (gathered x tests) others p m) [
        | inl same ↦ (x, ap (λ (f : ℕ → Bool). f x) (sym same) ∙ itself)
        | inr n ↦ s.nonempty p (other p n).0
      ];
      linked = λ p m. elim (uncons (gathered x tests) others p m) [
        | inl same ↦ subst (λ (q : ℕ → Bool). (a b : ℕ) → q a ≡ true → q b ≡ true → IsChain link (filter q X) a b) same (λ a b e f. chain_then link (hub a e).from (hub b f).to)
        | inr n ↦ s.linked p (other p n).0
      ];
      apart = ((λ q m. (let k = other q m in gathered_apart q k.0 k.1)), related_filter Apart (λ p. not (joins x p)) tests s.apart);
      started = (
        (λ q m. (x, itself, λ y e. (let k = s.listed q (other q m).0 y e in (0, suc k.0, omega arith, omega (arith, k.1), refl, sym (get_or_read xs k.0 y k.1 (sym k.2) 0))))),
        related_filter (Starts (x ∷ xs)) (λ p. not (joins x p)) tests (related_weaker (Starts xs) (Starts (x ∷ xs)) shifted tests s.started),
      );
    }

  sets_exist : (xs : List ℕ) → ((z : ℕ) → Contains xs z → Contains X z) → (tests : List (ℕ → Bool)) × AreSets xs tests
  sets_exist [] within = ([], no_sets)
  sets_exist (x ∷ xs) within =
      let rest = sets_exist xs (λ z m. within z (later_member x xs z m)) in
      (gathered x rest.0 ∷ filter (λ p. not (joins x p)) rest.0, more_sets x xs rest.0 (within x (first_member x xs)) (λ z m. within z (later_member x xs z m)) rest.1)

  module _ (xs : List ℕ) (within : (z : ℕ) → Contains xs z → Contains X z) (tests : List (ℕ → Bool)) (s : AreSets xs tests) where
    in_set : (p : ℕ → Bool) → Contains tests p → (z : ℕ) → p z ≡ true → Contains (filter p X) z
    in_set p m z e = filtered_member p X z (within z (s.listed p m z e)) e

    are_parts : ArePartsOf link xs (map (λ p. filter p X) tests)
    are_parts = record {
      members = λ z. (
        (λ m. (let k = s.all z m in let g = mapped_member set_of tests k.0 k.1 in (g.0, filter k.0 X, g.1, g.2, in_set k.0 k.1 z k.2))),
        (λ a. (let k = member_mapped set_of tests a.1 (a.0, a.2, a.3) in let m = member_filtered k.0 X z (subst (λ l. Contains l z) (sym k.2) a.4) in s.listed k.0 k.1 z m.1)),
      );
      sorted = all_members (IsStrictlySortedBy nat_cmp) (map set_of tests) (λ g m. (let k = member_mapped set_of tests g m in subst (IsStrictlySortedBy nat_cmp) k.2 (IsStrictlySortedBy-filter nat_cmp k.0 X rising)));
      nonempty = all_members (λ g. 0 < length g) (map set_of tests) (λ g m. (let k = member_mapped set_of tests g m in let w = s.nonempty k.0 k.1 in subst (λ l. 0 < length l) k.2 (let n = in_set k.0 k.1 w.0 w.1 in omega (arith, n.1))));
      linked = all_members (IsLinked link) (map set_of tests) (λ g m. (let k = member_mapped set_of tests g m in subst (IsLinked link) k.2 (λ u v a b. s.linked k.0 k.1 u v (member_filtered k.0 X u a).1 (member_filtered k.0 X v b).1)));
      apart = pairs_related (AreApart link) (map set_of tests) (related_map set_of (AreApart link) tests (related_weaker Apart (λ p q. AreApart link (filter p X) (filter q X)) (λ p q a u v m n. a u v (member_filtered p X u m).1 (member_filtered q X v n).1) tests s.apart));
      started = pairs_related (StartsBefore xs) (map set_of tests) (related_map set_of (StartsBefore xs) tests (related_members (Starts xs) (λ p q. StartsBefore xs (filter p X) (filter q X)) tests
          (λ p q m a. (a.0, in_set p m a.0 a.1, (λ y n. a.2 y (member_filtered q X y n).1))) s.started));
    }

  pub parts_exist : (xs : List ℕ) → ((z : ℕ) → Contains xs z → Contains X z) → (parts : List (List ℕ)) × ArePartsOf link xs parts
  parts_exist xs within = (let k = sets_exist xs within in (map (λ p. filter p X) k.0, are_parts xs within k.0 k.1))
