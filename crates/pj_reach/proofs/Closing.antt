-- From the trees, their numbers, the edges within classes and the rows of the order to what `close` promises.
use Rattle.std.proofs.Common.{◌≡◌, ℕ, ◌<◌, ◌↔◌, Bool, true, false, List, length, get_or, refl, sym, ◌∙◌, ap, subst, inr, arith}
use Rattle.pj_bits.specs.Matrix.{bit}
use Rattle.pj_reach.specs.Reach.{AreEdgesBelow, Reaches, edge, onward, IsLeast}
use Rattle.pj_reach.specs.Links.{source, target}
use Rattle.pj_reach.specs.Classes.{IsCondensed}
use Rattle.pj_reach.specs.Numbering.{IsFirst, IsNumbering}
use Rattle.pj_reach.specs.Cycles.{HasInnerEdge}
use Rattle.pj_reach.specs.Orders.{HasClasses}
use Rattle.pj_reach.specs.Closure.{Closure, size, classes, class_at, HasStrongClasses, IsNumberedByLeast, HasCyclicClasses, HasOrder, HasStrictOrder}
use Rattle.pj_reach.specs.Kept.{IsKept}
use Rattle.pj_reach.proofs.Paths.{edge_place, place_edge, ends_below, edge_below, reaches_trans}
use Rattle.pj_reach.proofs.Rows.{class_then_path, path_then_class}

reached_below : (size : ℕ) (edges : List (ℕ × ℕ)) → AreEdgesBelow size edges → (a b : ℕ) → Reaches edges a b → b < size
reached_below size edges graph a b (edge h) = (edge_below size edges a b graph h).1
reached_below size edges graph a b (onward {b = x} h more) = reached_below size edges graph x b more

module _ (size : ℕ) (edges : List (ℕ × ℕ)) (tree_of finished class_of : List ℕ) (classes : ℕ) (trees : IsCondensed size edges tree_of finished) (numbers : IsNumbering size tree_of class_of classes) where
  pub has_classes : HasClasses size edges class_of classes
  has_classes = record {
    in_range = numbers.in_range;
    one_class = λ a b a_in b_in. (
      (λ same. (trees.one_tree a b a_in b_in).0 ((numbers.one_class a b a_in b_in).0 same)),
      (λ one. (numbers.one_class a b a_in b_in).1 ((trees.one_tree a b a_in b_in).1 one)),
    );
  }

  -- a number that reaches a number of its class has an edge within the class
  inner_edge : AreEdgesBelow size edges → (a b : ℕ) → Reaches edges a b → get_or class_of a 0 ≡ get_or class_of b 0 → HasInnerEdge edges class_of (get_or class_of a 0)
  inner_edge graph a b (edge h) same = let at = edge_place edges a b h in (at.0, at.1, ap (λ y. get_or class_of y 0) at.2, ap (λ y. get_or class_of y 0) at.3 ∙ sym same)
  inner_edge graph a b (onward {b = x} h more) same =
      let at = edge_place edges a x h in
      let a_in : a < size = (edge_below size edges a x graph h).0 in
      let x_in : x < size = (edge_below size edges a x graph h).1 in
      let b_in : b < size = reached_below size edges graph x b more in
      let back : Reaches edges x a = path_then_class edges x b a more ((has_classes.one_class b a b_in a_in).0 (sym same)) in
      let one : get_or class_of a 0 ≡ get_or class_of x 0 = (has_classes.one_class a x a_in x_in).1 (inr (edge h, back)) in
      (at.0, at.1, ap (λ y. get_or class_of y 0) at.2, ap (λ y. get_or class_of y 0) at.3 ∙ sym one)

  least_from_first : (a : ℕ) → a < size → IsFirst tree_of a → IsLeast edges a
  least_from_first a a_in is b below one = is b below (sym ((trees.one_tree a b a_in (omega arith)).1 one))

  first_from_least : (a : ℕ) → a < size → IsLeast edges a → IsFirst tree_of a
  first_from_least a a_in is b below same = is b below ((trees.one_tree a b a_in (omega arith)).0 (sym same))

  module _ (cyclic : List Bool) (before : List (List Bool)) (cyclic_len : length cyclic ≡ classes) where
    pub strong_classes : HasStrongClasses edges (record { class_of = class_of; cyclic = cyclic; before = before })
    strong_classes a b a_in b_in = has_classes.one_class a b (omega (arith, a_in, numbers.class_len)) (omega (arith, b_in, numbers.class_len))

    pub numbered_by_least : IsNumberedByLeast edges (record { class_of = class_of; cyclic = cyclic; before = before })
    numbered_by_least = record {
      in_range = λ a a_in. let h = numbers.in_range a (omega (arith, a_in, numbers.class_len)) in omega (arith, h, cyclic_len);
      least = λ class h. let at = numbers.first class (omega (arith, h, cyclic_len)) in (at.0, omega (arith, at.1, numbers.class_len), at.2, least_from_first at.0 at.1 at.3);
      rising = λ a b b_in a_b a_least b_least.
          let b_in' : b < size = omega (arith, b_in, numbers.class_len) in
          numbers.rising a b b_in' a_b (first_from_least a (omega arith) a_least) (first_from_least b b_in' b_least);
    }

    pub cyclic_classes : AreEdgesBelow size edges → ((class : ℕ) → class < classes → (get_or cyclic class false ≡ true) ↔ HasInnerEdge edges class_of class) → HasCyclicClasses edges (record { class_of = class_of; cyclic = cyclic; before = before })
    cyclic_classes graph inner a a_in =
        let a_in' : a < size = omega (arith, a_in, numbers.class_len) in
        let here = inner (get_or class_of a 0) (numbers.in_range a a_in') in (
          (λ h.
              let e = here.0 h in
              let ends = ends_below size edges graph e.0 e.1 in
              path_then_class edges a (target edges e.0) a
              (class_then_path edges a (source edges e.0) (target edges e.0) ((has_classes.one_class a (source edges e.0) a_in' ends.0).0 (sym e.2)) (edge (place_edge edges e.0 e.1)))
              ((has_classes.one_class (target edges e.0) a ends.1 a_in').0 e.3)),
          (λ path. here.1 (inner_edge graph a a path refl)),
        )

    pub kept : length before ≡ classes → IsKept size classes class_of cyclic before
    kept before_size = record { class_len = numbers.class_len; cyclic_len = cyclic_len; before_size = before_size; below = numbers.in_range }

-- where the bits that are set stand for classes, the order between strong classes is strict
module _ (edges : List (ℕ × ℕ)) (r : Closure) (strong : HasStrongClasses edges r) (least : IsNumberedByLeast edges r) (order : HasOrder edges r) (inside : (x y : ℕ) → bit r.before x y ≡ true → (x < classes r) × (y < classes r)) where
  -- from members of three classes
  beyond : (a b c : ℕ) → a < size r → b < size r → c < size r → bit r.before (class_at r a) (class_at r b) ≡ true → bit r.before (class_at r b) (class_at r c) ≡ true → bit r.before (class_at r a) (class_at r c) ≡ true
  beyond a b c a_in b_in c_in a_b b_c =
      let first = (order a b a_in b_in).0 a_b in
      let second = (order b c b_in c_in).0 b_c in
      (order a c a_in c_in).1 (
        (λ same. first.0 ((strong a b a_in b_in).1 (inr (first.1, path_then_class edges b c a second.1 ((strong c a c_in a_in).0 (sym same)))))),
        reaches_trans edges a b c first.1 second.1,
      )

  pub strict_order : HasStrictOrder r
  strict_order = record {
    irreflexive = λ x h.
        let at = least.least x (inside x x h).0 in
        ((order at.0 at.0 at.1 at.1).0 (subst (λ k. bit r.before k k ≡ true) (sym at.2) h)).0 refl;
    transitive = λ x y z x_y y_z.
        let p = least.least x (inside x y x_y).0 in
        let q = least.least y (inside x y x_y).1 in
        let s = least.least z (inside y z y_z).1 in
        subst (λ k. bit r.before x k ≡ true) s.2
        (subst (λ k. bit r.before k (class_at r s.0) ≡ true) p.2
        (beyond p.0 q.0 s.0 p.1 q.1 s.1
        (subst (λ k. bit r.before k (class_at r q.0) ≡ true) (sym p.2) (subst (λ k. bit r.before x k ≡ true) (sym q.2) x_y))
        (subst (λ k. bit r.before k (class_at r s.0) ≡ true) (sym q.2) (subst (λ k. bit r.before y k ≡ true) (sym s.2) y_z))));
  }
