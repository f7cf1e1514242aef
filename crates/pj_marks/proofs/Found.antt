-- What stands in the list of the classes, and what in the list of the vertices of each.
use Rattle.std.proofs.Common.{◌≡◌, ℕ, ◌<◌, ◌≤◌, Bool, List, All, length, get_or, map, nat_eq, sym, ◌∙◌, ap, subst, arith}
use Rattle.std.specs.List.{range_with_len}
use Rattle.std.proofs.lemmas.List.{get_or-map, length-map}
use Rattle.std.proofs.lemmas.List.Elements.{All-filter}
use Rattle.std.proofs.lemmas.List.FromFn.{get_or-range_with_len, length-range_with_len, length-map-range_with_len, get_or-map-range_with_len}
use Rattle.pj_change.specs.MarkedText.{Piece, Class, class_at}
use Rattle.pj_reach.specs.Closure.{Closure, size, classes, is_cyclic, class_at as class_of_vertex}
use Rattle.pj_marks.specs.Classes.{members_below, members, class_of, classes_of}
use Rattle.pj_marks.specs.Grouped.{IsGrouped}

module _ (r : Closure) where
  members_fit : (n class : ℕ) → All (λ at. at < n) (members_below r n class)
  members_fit n class = All-filter (λ at. nat_eq (class_of_vertex r at) class) (λ at. at < n) (range_with_len 0 n)
      (λ k d lt. let in_range : k < n = omega (arith, lt, length-range_with_len 0 n) in omega (arith, in_range, get_or-range_with_len 0 n k d in_range))

  -- the list of a class has its vertices
  pub group_has : {X : Type 0} (list : X → List ℕ) (xs : List X) (class : ℕ) (x : X) → IsGrouped r (size r) (map list xs) → class < classes r → x ≡ get_or xs class x → list x ≡ members r class
  group_has list xs class x grouped is_class read =
      let lt : class < length xs = omega (arith, length-map xs list, grouped.each, is_class) in
      ap list read ∙ sym (get_or-map list xs class x _ lt) ∙ grouped.group class is_class

  -- which are vertices of the graph
  pub group_fits : (class n : ℕ) (group : List ℕ) → group ≡ members r class → size r ≤ n → All (λ at. at < n) group
  group_fits class n group is few =
      let below : All (λ at. at < size r) group = subst (All (λ at. at < size r)) (sym is) (members_fit (size r) class) in
      λ k d lt. omega (arith, below k d lt, few)

module _ (piece : ℕ → Piece) (r : Closure) (class : ℕ) (all : List Class) (all_are : classes_of piece r ≡ all) where
  -- a number in the list is that of a class
  pub is_class : class < length all → class < classes r
  is_class lt = omega (arith, lt, ap length all_are, length-map-range_with_len (class_of piece r) 0 (classes r))

  -- and the class that stands there is what its vertices make
  pub class_found : (cyclic : Bool) (group : List ℕ) → class < classes r → cyclic ≡ is_cyclic r class → group ≡ members r class
      → record { cyclic = cyclic; pieces = map piece group } ≡ class_at all class
  class_found cyclic group is_one cyclic_is group_is =
      ap (λ (b : Bool). record { cyclic = b; pieces = map piece group }) cyclic_is
      ∙ ap (λ (vs : List ℕ). record { cyclic = is_cyclic r class; pieces = map piece vs }) group_is
      ∙ sym (get_or-map-range_with_len (class_of piece r) 0 (classes r) class class _ is_one (omega arith))
      ∙ ap (λ (cs : List Class). class_at cs class) all_are
