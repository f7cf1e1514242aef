-- A strict order has at most one layout of a set.
use Rattle.std.proofs.Common.{◌≡◌, ℕ, suc, ◌<◌, ◌≤◌, List, [], ◌∷◌, length, refl, sym, ◌∙◌, ap, subst, inl, inr, arith, get_or}
use Rattle.std.specs.Prelude.{Contains, ◌⊎◌, AllPairs, filter, not, nat_eq}
use Rattle.std.specs.Ordering.{nat_cmp}
use Rattle.std.specs.Cmp.{nat_cmp_total}
use Rattle.std.specs.List.Sorted.{IsStrictlySortedBy}
use Rattle.std.proofs.lemmas.List.Elements.{All-contains, Contains-get_or}
use Rattle.pj_change.specs.Layout.{Shape, Shapes, One, Series, Sides, Tangle, none, more, IsChain, here, on, IsLinked, AreApart, AreLinkedSets, AreUnordered, AreOrdered, AllBefore, LeastBelow, IsTangle, IsLayout, AreLayouts}
use Rattle.pj_change.proofs.Members.{uncons, first_member, no_member, same_member, moved}
use Rattle.pj_change.proofs.Listings.{IsRelated, same_related, related_pairs, same_sorted}

-- ---- linked sets, under links that go both ways

module _ (link : ℕ → ℕ → Type 0) (turn : (x y : ℕ) → link x y → link y x) where
  -- two sets that share a member, or of which two members are linked, are one
  together : (parts : List (List ℕ)) → IsRelated (AreApart link) parts → (P Q : List ℕ) → Contains parts P → Contains parts Q →
      (y z : ℕ) → Contains P y → Contains Q z → (y ≡ z) ⊎ link y z → P ≡ Q
  together [] a P Q m n y z my mz l = absurd (no_member P m)
  together (R ∷ parts) a P Q m n y z my mz l = cases (λ k k'. together parts a.1 P Q k k' y z my mz l) (uncons R parts P m) (uncons R parts Q n)
    where
      not_apart : AreApart link P Q → ⊥
      not_apart f = (let g = f y z my mz in elim l [ inl e ↦ g.0 e | inr k ↦ g.1 k ])

      not_apart_back : AreApart link Q P → ⊥
      not_apart_back f = (let g = f z y mz my in elim l [ inl e ↦ g.0 (sym e) | inr k ↦ g.1 (turn y z k) ])

      cases : (Contains parts P → Contains parts Q → P ≡ Q) → (R ≡ P) ⊎ Contains parts P → (R ≡ Q) ⊎ Contains parts Q → P ≡ Q
      cases rest (inl e) (inl f) = sym e ∙ f
      cases rest (inl e) (inr k) = absurd (not_apart (subst (λ g. AreApart link g Q) e (a.0 Q k)))
      cases rest (inr k) (inl e) = absurd (not_apart_back (subst (λ g. AreApart link g P) e (a.0 P k)))
      cases rest (inr k) (inr k') = rest k k'

  module _ (X : List ℕ) (parts : List (List ℕ)) (sets : AreLinkedSets link X parts) where
    apart : IsRelated (AreApart link) parts
    apart = related_pairs (AreApart link) parts sets.apart

    member : (P : List ℕ) → Contains parts P → (x : ℕ) → Contains P x → Contains X x
    member P m x h = (sets.members x).1 (m.0, P, m.1, m.2, h)

    -- a chain that begins in a set stays in it
    stays : (P : List ℕ) → Contains parts P → {Y : List ℕ} {x y : ℕ} → ((z : ℕ) → Contains Y z → Contains X z) → Contains P x → IsChain link Y x y → Contains P y
    stays P m within h (here n) = h
    stays P m within h (on {y = y} {z = z} c l n) =
        let k = (sets.members z).0 (within z n) in
        let e : P ≡ k.1 = together parts apart P k.1 m (k.0, k.2, k.3) y z (stays P m within h c) k.4 (inr l) in
        moved z (sym e) k.4

    -- the first two of the sets
    record HasTwo : Type 0 where
      P : List ℕ
      Q : List ℕ
      x : ℕ
      y : ℕ
      P_in : Contains parts P
      Q_in : Contains parts Q
      x_in : Contains P x
      y_in : Contains Q y
      differ : AreApart link P Q

    has_two : HasTwo
    has_two = record {
      P = get_or parts 0 [];
      Q = get_or parts 1 [];
      x = get_or (get_or parts 0 []) 0 0;
      y = get_or (get_or parts 1 []) 0 0;
      P_in = Contains-get_or parts 0 [] (omega (arith, sets.several));
      Q_in = Contains-get_or parts 1 [] (omega (arith, sets.several));
      x_in = Contains-get_or (get_or parts 0 []) 0 0 (sets.nonempty 0 [] (omega (arith, sets.several)));
      y_in = Contains-get_or (get_or parts 1 []) 0 0 (sets.nonempty 1 [] (omega (arith, sets.several)));
      differ = sets.apart 0 1 [] (omega arith) (omega (arith, sets.several));
    }

    -- what has two linked sets is not linked as a whole
    not_linked : IsLinked link X → ⊥
    not_linked h =
        let t = has_two in
        let c = h t.x t.y (member t.P t.P_in t.x t.x_in) (member t.Q t.Q_in t.y t.y_in) in
        let m : Contains t.P t.y = stays t.P t.P_in (λ z n. n) t.x_in c in
        (t.differ t.y t.y m t.y_in).0 refl

    -- it has two members
    not_one : (x : ℕ) → X ≡ x ∷ [] → ⊥
    not_one x e =
        let t = has_two in
        let a = only t.x (member t.P t.P_in t.x t.x_in) in
        let b = only t.y (member t.Q t.Q_in t.y t.y_in) in
        (t.differ t.x t.y t.x_in t.y_in).0 (sym a ∙ b)
      where
        only : (z : ℕ) → Contains X z → x ≡ z
        only z m = elim (uncons x [] z (moved z e m)) [ inl f ↦ f | inr n ↦ absurd (no_member z n) ]

    not_none : X ≡ [] → ⊥
    not_none e = (let t = has_two in no_member t.x (moved t.x e (member t.P t.P_in t.x t.x_in)))

  -- two makings of linked sets have the same sets
  module _ (X : List ℕ) (parts parts' : List (List ℕ)) (sets : AreLinkedSets link X parts) (sets' : AreLinkedSets link X parts') where
    set_there : (P : List ℕ) → Contains parts P → Contains parts' P
    set_there P m =
        let x = get_or P 0 0 in
        let h : Contains P x = Contains-get_or P 0 0 (All-contains (λ part. 0 < length part) parts P sets.nonempty m) in
        let k = (sets'.members x).0 (member X parts sets P m x h) in
        let k_in : Contains parts' k.1 = (k.0, k.2, k.3) in
        let e : P ≡ k.1 = same_sorted nat_cmp nat_cmp_total P k.1
        (All-contains (IsStrictlySortedBy nat_cmp) parts P sets.sorted m) (All-contains (IsStrictlySortedBy nat_cmp) parts' k.1 sets'.sorted k_in)
        (λ y n. stays X parts' sets' k.1 k_in (λ z. member X parts sets P m z) k.4 (All-contains (IsLinked link) parts P sets.linked m x y h n))
        (λ y n. stays X parts sets P m (λ z. member X parts' sets' k.1 k_in z) h (All-contains (IsLinked link) parts' k.1 sets'.linked k_in x y k.4 n)) in
        same_member parts' (sym e) k_in

-- ---- the layout

module _ (before : ℕ → ℕ → Type 0) (asymm : (x y : ℕ) → before x y → before y x → ⊥) where
  turn_unordered : (x y : ℕ) → AreUnordered before x y → AreUnordered before y x
  turn_unordered x y h = (λ e. h.0 (sym e), h.2, h.1)

  turn_ordered : (x y : ℕ) → AreOrdered before x y → AreOrdered before y x
  turn_ordered x y h = elim h [ inl b ↦ inr b | inr b ↦ inl b ]

  tangle_one : (X xs ys : List ℕ) → IsTangle before X xs → IsTangle before X ys → xs ≡ ys
  tangle_one X [] [] a b = refl
  tangle_one X [] (y ∷ ys) a b = absurd (no_member y (moved y a b.0.member))
  tangle_one X (x ∷ xs) [] a b = absurd (no_member x (moved x b a.0.member))
  tangle_one X (x ∷ xs) (y ∷ ys) a b =
      let l : x ≤ y = a.1 y b.0 in
      let m : y ≤ x = b.1 x a.0 in
      let e : x ≡ y = omega arith in
      let rest : IsTangle before (filter (λ z. not (nat_eq x z)) X) ys = subst (λ w. IsTangle before (filter (λ z. not (nat_eq w z)) X) ys) (sym e) b.2 in
      let s : xs ≡ ys = tangle_one (filter (λ z. not (nat_eq x z)) X) xs ys a.2 rest in
      λ i. e i ∷ s i

  -- the sets that stand one after the other are before each other one way alone
  same_series : (X : List ℕ) (parts parts' : List (List ℕ)) → AreLinkedSets (AreUnordered before) X parts → AreLinkedSets (AreUnordered before) X parts' →
      AllPairs (AllBefore before) parts → AllPairs (AllBefore before) parts' → parts ≡ parts'
  same_series X parts parts' a b r s =
      same_related (AllBefore before) parts parts' exclusive (related_pairs _ parts r) (related_pairs _ parts' s)
      (set_there (AreUnordered before) turn_unordered X parts parts' a b) (set_there (AreUnordered before) turn_unordered X parts' parts b a)
    where
      exclusive : (P Q : List ℕ) → Contains parts P → Contains parts Q → AllBefore before P Q → AllBefore before Q P → ⊥
      exclusive P Q m n f g =
          let h = Contains-get_or P 0 0 (All-contains (λ part. 0 < length part) parts P a.nonempty m) in
          let k = Contains-get_or Q 0 0 (All-contains (λ part. 0 < length part) parts Q a.nonempty n) in
          asymm (get_or P 0 0) (get_or Q 0 0) (f (get_or P 0 0) (get_or Q 0 0) h k) (g (get_or Q 0 0) (get_or P 0 0) k h)

  not_below : (P Q : List ℕ) → LeastBelow P Q → LeastBelow Q P → ⊥
  not_below (x ∷ P) (y ∷ Q) f g = omega arith
  not_below [] Q f g = f
  not_below (x ∷ P) [] f g = f

  same_sides : (X : List ℕ) (parts parts' : List (List ℕ)) → AreLinkedSets (AreOrdered before) X parts → AreLinkedSets (AreOrdered before) X parts' →
      AllPairs LeastBelow parts → AllPairs LeastBelow parts' → parts ≡ parts'
  same_sides X parts parts' a b r s =
      same_related LeastBelow parts parts' (λ P Q m n f g. not_below P Q f g) (related_pairs _ parts r) (related_pairs _ parts' s)
      (set_there (AreOrdered before) turn_ordered X parts parts' a b) (set_there (AreOrdered before) turn_ordered X parts' parts b a)

  mutual
    pub layout_one : (depth : ℕ) (X : List ℕ) (s t : Shape) → IsLayout before depth X s → IsLayout before depth X t → s ≡ t
    layout_one depth X (One x) (One y) a b = (let f : x ∷ [] ≡ y ∷ [] = sym a ∙ b in cc)
    layout_one depth X (One x) (Series none) a b = absurd (no_member x (moved x (sym a ∙ b) (first_member x [])))
    layout_one depth X (One x) (Series (more t ts)) a b = absurd (not_one (AreUnordered before) turn_unordered X b.1 b.2 x a)
    layout_one depth X (One x) (Sides ts) a b = absurd (not_one (AreOrdered before) turn_ordered X b.2 b.3 x a)
    layout_one depth X (One x) (Tangle ys) a b = absurd (let l = ap length a in omega (arith, b.0))
    layout_one depth X (Series none) (One y) a b = absurd (no_member y (moved y (sym b ∙ a) (first_member y [])))
    layout_one depth X (Series none) (Series none) a b = refl
    layout_one depth X (Series none) (Series (more t ts)) a b = absurd (not_none (AreUnordered before) turn_unordered X b.1 b.2 a)
    layout_one depth X (Series none) (Sides ts) a b = absurd (not_none (AreOrdered before) turn_ordered X b.2 b.3 a)
    layout_one depth X (Series none) (Tangle ys) a b = absurd (let l = ap length a in omega (arith, b.0))
    layout_one depth X (Series (more s ss)) (One y) a b = absurd (not_one (AreUnordered before) turn_unordered X a.1 a.2 y b)
    layout_one depth X (Series (more s ss)) (Series none) a b = absurd (not_none (AreUnordered before) turn_unordered X a.1 a.2 b)
    layout_one depth X (Series (more s ss)) (Series (more t ts)) a b =
        ap Series (layouts_one (suc depth) a.1 (more s ss) b.1 (more t ts) (same_series X a.1 b.1 a.2 b.2 a.3 b.3) a.4 b.4)
    layout_one depth X (Series (more s ss)) (Sides ts) a b = absurd (not_linked (AreUnordered before) turn_unordered X a.1 a.2 b.1)
    layout_one depth X (Series (more s ss)) (Tangle ys) a b = absurd (elim b.1 [
      | inl d ↦ omega (arith, a.0)
      | inr k ↦ not_linked (AreUnordered before) turn_unordered X a.1 a.2 k.1
    ])
    layout_one depth X (Sides ss) (One y) a b = absurd (not_one (AreOrdered before) turn_ordered X a.2 a.3 y b)
    layout_one depth X (Sides ss) (Series none) a b = absurd (not_none (AreOrdered before) turn_ordered X a.2 a.3 b)
    layout_one depth X (Sides ss) (Series (more t ts)) a b = absurd (not_linked (AreUnordered before) turn_unordered X b.1 b.2 a.1)
    layout_one depth X (Sides ss) (Sides ts) a b =
        ap Sides (layouts_one (suc depth) a.2 ss b.2 ts (same_sides X a.2 b.2 a.3 b.3 a.4 b.4) a.5 b.5)
    layout_one depth X (Sides ss) (Tangle ys) a b = absurd (elim b.1 [
      | inl d ↦ omega (arith, a.0)
      | inr k ↦ not_linked (AreOrdered before) turn_ordered X a.2 a.3 k.2
    ])
    layout_one depth X (Tangle xs) (One y) a b = absurd (let l = ap length b in omega (arith, a.0))
    layout_one depth X (Tangle xs) (Series none) a b = absurd (let l = ap length b in omega (arith, a.0))
    layout_one depth X (Tangle xs) (Series (more t ts)) a b = absurd (elim a.1 [
      | inl d ↦ omega (arith, b.0)
      | inr k ↦ not_linked (AreUnordered before) turn_unordered X b.1 b.2 k.1
    ])
    layout_one depth X (Tangle xs) (Sides ts) a b = absurd (elim a.1 [
      | inl d ↦ omega (arith, b.0)
      | inr k ↦ not_linked (AreOrdered before) turn_ordered X b.2 b.3 k.2
    ])
    layout_one depth X (Tangle xs) (Tangle ys) a b = ap Tangle (tangle_one X xs ys a.2 b.2)

    layouts_one : (depth : ℕ) (parts : List (List ℕ)) (ss : Shapes) (parts' : List (List ℕ)) (ts : Shapes) → parts ≡ parts' →
        AreLayouts before depth parts ss → AreLayouts before depth parts' ts → ss ≡ ts
    layouts_one depth parts none parts' none e a b = refl
    layouts_one depth parts none parts' (more t ts) e a b = absurd (let f = sym a ∙ e ∙ b.2 in cc)
    layouts_one depth parts (more s ss) parts' none e a b = absurd (let f = sym a.2 ∙ e ∙ b in cc)
    layouts_one depth parts (more s ss) parts' (more t ts) e a b =
        let f : a.0 ∷ a.1 ≡ b.0 ∷ b.1 = sym a.2 ∙ e ∙ b.2 in
        let first : a.0 ≡ b.0 = cc in
        let rest : a.1 ≡ b.1 = cc in
        let h : s ≡ t = layout_one depth a.0 s t a.3 (subst (λ P. IsLayout before depth P t) (sym first) b.3) in
        let k : ss ≡ ts = layouts_one depth a.1 ss b.1 ts rest a.4 b.4 in
        λ i. more (h i) (k i)
