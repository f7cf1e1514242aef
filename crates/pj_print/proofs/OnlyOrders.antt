-- Where the edges of a graph leave only one order of its numbers, each number is a class, and the layout is the numbers in that order.
use Rattle.std.proofs.Common.{◌≡◌, ℕ, zero, suc, ◌+◌, ◌-◌, ◌<◌, ◌≤◌, Bool, true, false, List, [], ◌∷◌, length, get_or, map, refl, sym, ◌∙◌, ap, subst, inl, inr, arith}
use Rattle.std.specs.Prelude.{Contains, slice_index, IsTrue, nat_lt, AllPairs, Any, ◌↔◌}
use Rattle.std.specs.List.{range_with_len}
use Rattle.std.specs.Ordering.{nat_cmp}
use Rattle.std.specs.List.Sorted.{IsStrictlySortedBy}
use Rattle.std.proofs.lemmas.Bool.{cases_lt}
use Rattle.std.proofs.lemmas.Bool.Decides.{Decides-ltb}
use Rattle.std.proofs.lemmas.List.{length-map, get_or-map, get_or_past}
use Rattle.std.proofs.lemmas.List.Elements.{All-map}
use Rattle.std.proofs.lemmas.List.FromFn.{length-range_with_len, get_or-range_with_len, length-map-range_with_len, get_or-map-range_with_len}
use Rattle.std.proofs.lemmas.Option.{slice_get_within, slice_get-get_or, get_or_from_slice_get}
use Rattle.pj_bits.specs.Matrix.{bit, size as size_of}
use Rattle.pj_change.specs.Layout.{Shape, Shapes, One, Series, none, more, IsChain, here, IsLinked, AreApart, AreLinkedSets, AreUnordered, AllBefore, IsLayout, AreLayouts}
use Rattle.pj_change.proofs.Members.{uncons, first_member, no_member, moved, same_member}
use Rattle.pj_change.proofs.PickedMembers.{mapped, image}
use Rattle.pj_reach.specs.Reach.{AreEdgesBelow, IsEdge, Reaches, edge, onward, InOneClass, IsLeast}
use Rattle.pj_reach.specs.Links.{source, target}
use Rattle.pj_reach.specs.Closure.{Closure, size, classes, class_at, is_cyclic, HasStrongClasses, IsNumberedByLeast, HasCyclicClasses, HasOrder}
use Rattle.pj_reach.proofs.Paths.{edge_place, place_edge, ends_below}
use Rattle.pj_layout.specs.Orders.{Before}
use Rattle.pj_print.specs.OnlyOrder.{IsOnlyOrder}
use Rattle.pj_print.proofs.FileTexts.{IsClosed}

-- ---- lists of one

abbrev pub single : ℕ → List ℕ
single x = x ∷ []

pub only : (x y : ℕ) → Contains (single x) y → x ≡ y
only x y m = elim (uncons x [] y m) [ inl e ↦ e | inr n ↦ absurd (no_member y n) ]

single_linked : (link : ℕ → ℕ → Type 0) (x : ℕ) → IsLinked link (single x)
single_linked link x y z m n = subst (λ w. IsChain link (single x) y w) (sym (only x y m) ∙ only x z n) (here m)

pub single_sorted : (x : ℕ) → IsStrictlySortedBy nat_cmp (single x)
unfolding IsStrictlySortedBy
single_sorted x = (tt, tt)

-- ---- the layout of a list

abbrev pub ones : List ℕ → Shapes
ones [] = none
ones (x ∷ xs) = more (One x) (ones xs)

-- the classes of a list one after the other
abbrev pub in_series : List ℕ → Shape
in_series [] = Series none
in_series (x ∷ []) = One x
in_series (x ∷ y ∷ ys) = Series (ones (x ∷ y ∷ ys))

laid_ones : (before : ℕ → ℕ → Type 0) (depth : ℕ) (xs : List ℕ) → AreLayouts before depth (map single xs) (ones xs)
laid_ones before depth [] = refl
laid_ones before depth (x ∷ xs) = (single x, map single xs, refl, refl, laid_ones before depth xs)

-- the numbers of the list are those of X, and each is before the later ones, and not after
pub record IsInOrder (before : ℕ → ℕ → Type 0) (X xs : List ℕ) : Type 0 where
  pub there : (x : ℕ) → Contains X x → Contains xs x
  pub back : (x : ℕ) → Contains xs x → Contains X x
  pub rising : (i j : ℕ) → i < j → j < length xs → before (slice_index xs i) (slice_index xs j)
  pub apart : (i j : ℕ) → i < j → j < length xs → slice_index xs i ≡ slice_index xs j → ⊥

module _ (before : ℕ → ℕ → Type 0) (X xs : List ℕ) (h : IsInOrder before X xs) where
  part_at : (i : ℕ) (d : List ℕ) → i < length xs → get_or (map single xs) i d ≡ single (slice_index xs i)
  part_at i d low = get_or-map single xs i 0 d low

  in_part : (i : ℕ) (d : List ℕ) (x : ℕ) → i < length xs → Contains (get_or (map single xs) i d) x → slice_index xs i ≡ x
  in_part i d x low m = only (slice_index xs i) x (moved x (part_at i d low) m)

  some_part : (x : ℕ) → Contains X x → Any (λ part. Contains part x) (map single xs)
  some_part x m =
      let n = mapped single xs x (h.there x m) in
      (n.0, single x, n.1, n.2, first_member x [])

  of_part : (x : ℕ) → Any (λ part. Contains part x) (map single xs) → Contains X x
  of_part x a =
      let k = image single xs a.1 (a.0, a.2, a.3) in
      h.back x (same_member xs (only k.it x (moved x (sym k.is) a.4)) k.member)

  apart_at : (i j : ℕ) (d : List ℕ) → i < j → j < length xs → AreApart (AreUnordered before) (get_or (map single xs) i d) (get_or (map single xs) j d)
  apart_at i j d l low x y m n =
      let a = in_part i d x (omega arith) m in
      let b = in_part j d y low n in (
        λ e. h.apart i j l low (a ∙ e ∙ sym b),
        λ u. u.1 (subst (λ v. before v y) a (subst (λ w. before (slice_index xs i) w) b (h.rising i j l low))),
      )

  before_at : (i j : ℕ) (d : List ℕ) → i < j → j < length xs → AllBefore before (get_or (map single xs) i d) (get_or (map single xs) j d)
  before_at i j d l low x y m n =
      let a = in_part i d x (omega arith) m in
      let b = in_part j d y low n in
      subst (λ v. before v y) a (subst (λ w. before (slice_index xs i) w) b (h.rising i j l low))

  linked_sets : 2 ≤ length xs → AreLinkedSets (AreUnordered before) X (map single xs)
  linked_sets several = record {
    several = omega (arith, several, length-map xs single);
    members = λ x. (some_part x, of_part x);
    sorted = All-map (IsStrictlySortedBy nat_cmp) single xs (λ k d low. single_sorted (get_or xs k d));
    nonempty = All-map (λ part. 0 < length part) single xs (λ k d low. omega arith);
    linked = All-map (IsLinked (AreUnordered before)) single xs (λ k d low. single_linked (AreUnordered before) (get_or xs k d));
    apart = λ i j d l low. apart_at i j d l (omega (arith, low, length-map xs single));
  }

  pub laid_series : (depth : ℕ) → 2 ≤ length xs → AreLinkedSets (AreUnordered before) X (map single xs) × AllPairs (AllBefore before) (map single xs) × AreLayouts before depth (map single xs) (ones xs)
  laid_series depth several = (linked_sets several, (λ i j d l low. before_at i j d l (omega (arith, low, length-map xs single))), laid_ones before depth xs)

-- the numbers below the length, in an order
pub laid : (before : ℕ → ℕ → Type 0) (xs : List ℕ) → IsInOrder before (range_with_len 0 (length xs)) xs → IsLayout before 0 (range_with_len 0 (length xs)) (in_series xs)
laid before [] h = refl
laid before (x ∷ []) h = (let e : 0 ≡ x = only 0 x (h.back x (first_member x [])) in ap single e)
laid before (x ∷ y ∷ ys) h =
    let s = laid_series before (range_with_len 0 (length (x ∷ y ∷ ys))) (x ∷ y ∷ ys) h (suc zero) (omega arith) in
    (omega arith, map single (x ∷ y ∷ ys), s.0, s.1, s.2)

-- ---- the places

module _ (edges : List (ℕ × ℕ)) (n : ℕ) (below : AreEdgesBelow n edges) (order : List ℕ) (h : IsOnlyOrder edges n order) where
  abbrev place : ℕ → ℕ
  place v = slice_index h.places v

  abbrev at : ℕ → ℕ
  at i = slice_index order i

  at_place : (v : ℕ) → v < n → at (place v) ≡ v
  at_place v v_in = get_or_from_slice_get order (place v) v 0 (h.placed v v_in)

  place_in : (v : ℕ) → v < n → place v < n
  place_in v v_in = omega (arith, slice_get_within order (place v) v (h.placed v v_in), h.long)

  place_at : (i : ℕ) → i < n → place (at i) ≡ i
  place_at i i_in = get_or_from_slice_get h.places (at i) i 0 (h.standing i i_in)

  pub at_in : (i : ℕ) → i < n → at i < n
  at_in i i_in = omega (arith, slice_get_within h.places (at i) i (h.standing i i_in), h.sized)

  edge_onward : (a b : ℕ) → IsEdge edges a b → place a < place b
  edge_onward a b m =
      let p = edge_place edges a b m in
      let on = h.onward p.0 p.1 in
      let from = ap place p.2 in
      let to = ap place p.3 in
      omega (arith, on, from, to)

  reached_onward : {a b : ℕ} → Reaches edges a b → place a < place b
  reached_onward (edge {a = a} {b = b} e) = edge_onward a b e
  reached_onward (onward {a = a} {b = b} e rest) = omega (arith, edge_onward a b e, reached_onward rest)

  edge_from : (i : ℕ) → suc i < n → IsEdge edges (at i) (at (suc i))
  edge_from i low =
      let j = h.joined i low in
      let ends = ends_below n edges below j.0 j.1 in
      let from : source edges j.0 ≡ at i = sym (at_place (source edges j.0) ends.0) ∙ ap at j.2 in
      let to : target edges j.0 ≡ at (suc i) = sym (at_place (target edges j.0) ends.1) ∙ ap at j.3 in
      subst (λ b. IsEdge edges (at i) b) to (subst (λ a. IsEdge edges a (target edges j.0)) from (place_edge edges j.0 j.1))

  path_from : (k i : ℕ) → i + suc k < n → Reaches edges (at i) (at (i + suc k))
  path_from zero i low =
      let e : suc i ≡ i + suc zero = omega arith in
      subst (λ j. Reaches edges (at i) (at j)) e (edge (edge_from i (omega (arith, low))))
  path_from (suc k) i low =
      let e : suc i + suc k ≡ i + suc (suc k) = omega arith in
      subst (λ j. Reaches edges (at i) (at j)) e (onward (edge_from i (omega (arith, low))) (path_from k (suc i) (omega (arith, low))))

  path_between : (i j : ℕ) → i < j → j < n → Reaches edges (at i) (at j)
  path_between i j l low =
      let e : i + suc (j - suc i) ≡ j = omega (arith, l) in
      subst (λ m. Reaches edges (at i) (at m)) e (path_from (j - suc i) i (omega (arith, low, e)))

  onward_reached : (a b : ℕ) → a < n → b < n → place a < place b → Reaches edges a b
  onward_reached a b a_in b_in l =
      subst (λ x. Reaches edges x b) (at_place a a_in) (subst (λ y. Reaches edges (at (place a)) y) (at_place b b_in) (path_between (place a) (place b) l (place_in b b_in)))

  one_class : (a b : ℕ) → InOneClass edges a b → a ≡ b
  one_class a b c = elim c [ inl e ↦ e | inr k ↦ absurd (omega (arith, reached_onward k.0, reached_onward k.1)) ]

  -- ---- the closure

  abbrev row : ℕ → List Bool
  row x = map (λ y. nat_lt (place x) (place y)) (range_with_len 0 n)

  -- each number is a class, none is cyclic, and one is before another where its place is
  abbrev pub closure : Closure
  closure = record {
    class_of = range_with_len 0 n;
    cyclic = map (λ (x : ℕ). false) (range_with_len 0 n);
    before = map row (range_with_len 0 n);
  }

  pub sized : size closure ≡ n
  sized = length-range_with_len 0 n

  pub counted : classes closure ≡ n
  counted = length-map-range_with_len (λ (x : ℕ). false) 0 n

  pub own_class : (a : ℕ) → a < n → class_at closure a ≡ a
  own_class a a_in = get_or-range_with_len 0 n a 0 a_in ∙ (let e : 0 + a ≡ a = omega arith in e)

  pub not_cyclic : (x : ℕ) → x < n → is_cyclic closure x ≡ false
  not_cyclic x x_in = get_or-map-range_with_len (λ (y : ℕ). false) 0 n x x false x_in (omega arith)

  bit_is : (x y : ℕ) → x < n → y < n → bit closure.before x y ≡ nat_lt (place x) (place y)
  unfolding bit
  bit_is x y x_in y_in =
      ap (λ bits. get_or bits y false) (get_or-map-range_with_len row 0 n x x [] x_in (omega arith)) ∙ get_or-map-range_with_len (λ z. nat_lt (place x) (place z)) 0 n y y false y_in (omega arith)

  row_in : (x y : ℕ) → bit closure.before x y ≡ true → x < n
  unfolding bit
  row_in x y t = elim (cases_lt x n) [
    | inl low ↦ low
    | inr past ↦ absurd (
        let none : bit closure.before x y ≡ false = ap (λ bits. get_or bits y false) (get_or_past closure.before x [] (omega (arith, past, length-map-range_with_len row 0 n))) in
        cc)
  ]

  column_in : (x y : ℕ) → x < n → bit closure.before x y ≡ true → y < n
  unfolding bit
  column_in x y x_in t = elim (cases_lt y n) [
    | inl low ↦ low
    | inr past ↦ absurd (
        let none : bit closure.before x y ≡ false = ap (λ bits. get_or bits y false) (get_or-map-range_with_len row 0 n x x [] x_in (omega arith))
        ∙ get_or_past (row x) y false (omega (arith, past, length-map-range_with_len (λ z. nat_lt (place x) (place z)) 0 n)) in
        cc)
  ]

  bits_in : (x y : ℕ) → bit closure.before x y ≡ true → (x < n) × (y < n)
  bits_in x y t = (let x_in = row_in x y t in (x_in, column_in x y x_in t))

  bit_at : (x y : ℕ) → x < n → y < n → IsTrue (bit closure.before x y) ↔ (place x < place y)
  bit_at x y x_in y_in = subst (λ b. IsTrue b ↔ (place x < place y)) (sym (bit_is x y x_in y_in)) (Decides-ltb (place x) (place y))

  strong : HasStrongClasses edges closure
  strong a b a_in b_in =
      let of_a = own_class a (omega (arith, a_in, sized)) in
      let of_b = own_class b (omega (arith, b_in, sized)) in
      ((λ e. inl (sym of_a ∙ e ∙ of_b)), (λ c. of_a ∙ one_class a b c ∙ sym of_b))

  least : (a : ℕ) → IsLeast edges a
  least a b low c = (let e = one_class a b c in omega (arith, e, low))

  numbered : IsNumberedByLeast edges closure
  numbered = record {
    in_range = λ a a_in. (let of_a = own_class a (omega (arith, a_in, sized)) in omega (arith, of_a, a_in, sized, counted));
    least = λ x x_in. (let inside : x < n = omega (arith, x_in, counted) in (x, omega (arith, inside, sized), own_class x inside, least x));
    rising = λ a b b_in low f g. (
        let of_a = own_class a (omega (arith, b_in, low, sized)) in
        let of_b = own_class b (omega (arith, b_in, sized)) in
        omega (arith, of_a, of_b, low));
  }

  cycles : HasCyclicClasses edges closure
  cycles a a_in =
      let inside : a < n = omega (arith, a_in, sized) in
      let of_a = own_class a inside in
      let none = ap (is_cyclic closure) of_a ∙ not_cyclic a inside in
      ((λ t. absurd (let f : true ≡ false = sym t ∙ none in cc)), (λ p. absurd (omega (arith, reached_onward p))))

  ordered : HasOrder edges closure
  ordered a b a_in b_in =
      let a_low : a < n = omega (arith, a_in, sized) in
      let b_low : b < n = omega (arith, b_in, sized) in
      let of_a = own_class a a_low in
      let of_b = own_class b b_low in
      let bits = bit_at a b a_low b_low in (
        (λ t.
            let l = bits.0 (subst (λ x. IsTrue (bit closure.before x b)) of_a (subst (λ y. IsTrue (bit closure.before (class_at closure a) y)) of_b t)) in
            ((λ e. (let s = ap place (sym of_a ∙ e ∙ of_b) in omega (arith, s, l))), onward_reached a b a_low b_low l)),
        (λ k. subst (λ x. IsTrue (bit closure.before x (class_at closure b))) (sym of_a) (subst (λ y. IsTrue (bit closure.before a y)) (sym of_b) (bits.1 (reached_onward k.1)))),
      )

  squared : size_of closure.before ≡ n
  squared = length-map-range_with_len row 0 n

  pub closed : IsClosed n edges closure
  closed = record {
    sized = sized;
    strong = strong;
    numbers = numbered;
    cycles = cycles;
    order = ordered;
    squared = squared ∙ sym counted;
    inside = λ x y t. (let k = bits_in x y t in (omega (arith, k.0, counted), omega (arith, k.1, counted)));
  }

  -- ---- the layout

  pub number_in : (x : ℕ) → Contains (range_with_len 0 n) x → x < n
  number_in x m = (let is = sym (get_or-range_with_len 0 n m.0 x (omega (arith, m.1, length-range_with_len 0 n))) ∙ m.2 in omega (arith, is, m.1, length-range_with_len 0 n))

  in_numbers : (x : ℕ) → x < n → Contains (range_with_len 0 n) x
  in_numbers x low = (x, omega (arith, low, length-range_with_len 0 n), get_or-range_with_len 0 n x x low ∙ (let e : 0 + x ≡ x = omega arith in e))

  in_order : IsInOrder (Before closure.before) (range_with_len 0 n) order
  in_order = record {
    there = λ x m. (let low = number_in x m in (place x, omega (arith, place_in x low, h.long), get_or_from_slice_get order (place x) x x (h.placed x low)));
    back = λ x m. (let inside : m.0 < n = omega (arith, m.1, h.long) in in_numbers x (subst (λ y. y < n) (same_at m.0 x m.1 ∙ m.2) (at_in m.0 inside)));
    rising = λ i j l low. (
        let j_in : j < n = omega (arith, low, h.long) in
        let i_in : i < n = omega (arith, l, j_in) in
        (bit_at (at i) (at j) (at_in i i_in) (at_in j j_in)).1 (omega (arith, place_at i i_in, place_at j j_in, l)));
    apart = λ i j l low e. (
        let j_in : j < n = omega (arith, low, h.long) in
        let i_in : i < n = omega (arith, l, j_in) in
        let same = ap place e in
        omega (arith, same, place_at i i_in, place_at j j_in, l));
  }
    where
      same_at : (i x : ℕ) → i < length order → at i ≡ get_or order i x
      same_at i x low = get_or_from_slice_get order i (get_or order i x) 0 (slice_get-get_or order i x low)

  pub layout : IsLayout (Before closure.before) 0 (range_with_len 0 (size_of closure.before)) (in_series order)
  layout =
      let counts : length order ≡ size_of closure.before = h.long ∙ sym squared in
      subst (λ k. IsLayout (Before closure.before) 0 (range_with_len 0 k) (in_series order)) counts
      (laid (Before closure.before) order (subst (λ k. IsInOrder (Before closure.before) (range_with_len 0 k) order) (sym h.long) in_order))
