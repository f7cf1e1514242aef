-- The live vertices of each strong class are the classes of what is live.
use Rattle.std.proofs.Common.{◌≡◌, ℕ, ◌<◌, ◌≤◌, List, [], ◌∷◌, length, get_or, map, refl, sym, ◌∙◌, ap, subst, inl, inr, arith}
use Rattle.std.specs.Prelude.{Contains, All, ◌↔◌}
use Rattle.std.specs.List.{range_with_len}
use Rattle.std.specs.Ordering.{nat_cmp}
use Rattle.std.specs.List.Sorted.{IsStrictlySortedBy}
use Rattle.std.proofs.lemmas.Bool.{cases_lt}
use Rattle.std.proofs.lemmas.List.{length-map}
use Rattle.std.proofs.lemmas.List.Elements.{All-map, All-contains, All-from_recursion}
use Rattle.std.proofs.lemmas.List.FromFn.{length-map-range_with_len, get_or-map-range_with_len}
use Rattle.std.proofs.lemmas.Map.Keys.{Less-from_sorted}
use Rattle.pj_change.specs.declared.point.Point.{Point}
use Rattle.pj_change.specs.declared.graph.Vertex.{Vertex}
use Rattle.pj_change.specs.declared.change.Record.{Record}
use Rattle.pj_change.specs.Graph.{vertex_cmp}
use Rattle.pj_change.specs.MarkedText.{Piece}
use Rattle.pj_change.specs.FileText.{AreAlike, LeastPointBelow, IsClass, AreClasses}
use Rattle.pj_change.proofs.Members.{first_member, from_each}
use Rattle.pj_layout.proofs.Predecessors.{all_below}
use Rattle.pj_layout.proofs.RisingParts.{first_least}
use Rattle.pj_reach.specs.Reach.{IsLeast}
use Rattle.pj_reach.specs.Closure.{Closure, size, classes, class_at, HasStrongClasses, IsNumberedByLeast}
use Rattle.pj_marks.specs.Classes.{members}
use Rattle.pj_print.specs.FileParts.{AreParts}
use Rattle.pj_print.proofs.Numbers.{IsMember, is_member, member_is, members_rise, no_vertex, vertex_at, vertices_of, is_live, numbered, rising as vertices_rise, IsNumber, has_number, number_has, alike_in_one_class}

-- the vertices of each class, by the classes' numbers
abbrev pub all_classes : List Vertex → Closure → List (List Vertex)
all_classes live r = map (vertices_of live r) (range_with_len 0 (classes r))

all_members : {X : Type 0} (P : X → Type 0) (xs : List X) → ((x : X) → Contains xs x → P x) → All P xs
all_members P xs each = All-from_recursion P xs (from_each P xs each)

-- a class among them
pub class_there : (live : List Vertex) (r : Closure) (class : ℕ) (d : List Vertex) → class < classes r → get_or (all_classes live r) class d ≡ vertices_of live r class
class_there live r class d inside = get_or-map-range_with_len (vertices_of live r) 0 (classes r) class class d inside (omega arith)

some : {X : Type 0} (xs : List X) (x : X) → Contains xs x → 0 < length xs
some xs x m = omega (arith, m.1)

-- a list of numbers that begins below another: so do the vertices
begins_below : (live : List Vertex) → IsStrictlySortedBy vertex_cmp live → (xs ys : List ℕ) → IsStrictlySortedBy nat_cmp xs → (a b : ℕ) → Contains xs a → a < b → 0 < length ys →
    ((y : ℕ) → Contains ys y → (b ≤ y) × (y < length live)) → LeastPointBelow (map (vertex_at live) xs) (map (vertex_at live) ys)
begins_below live sorted [] ys s a b m below some_y beyond = absurd (omega (arith, m.1))
begins_below live sorted (x ∷ xs) [] s a b m below some_y beyond = absurd (omega (arith, some_y))
begins_below live sorted (x ∷ xs) (y ∷ ys) s a b m below some_y beyond =
    let low : x ≤ a = first_least x xs s a m in
    let high = beyond y (first_member y ys) in
    Less-from_sorted vertex_cmp live x y no_vertex sorted (omega (arith, low, high.0)) high.1

module _ (S : List Record) (inode : Point) (live : List Vertex) (edges : List (ℕ × ℕ)) (piece : ℕ → Piece) (parts : AreParts S inode live edges piece) (r : Closure) (sized : length live ≡ size r)
    (strong : HasStrongClasses edges r) (numbers : IsNumberedByLeast edges r) where
  module _ (class : ℕ) (inside : class < classes r) where
    -- the least number of the class
    least : ℕ
    least = (numbers.least class inside).0

    least_member : IsMember r class least
    unfolding least
    least_member = record { inside = (numbers.least class inside).1; of = (numbers.least class inside).2 }

    least_is : IsLeast edges least
    unfolding least
    least_is = (numbers.least class inside).3

    -- no number of the class is below it
    none_below : (at : ℕ) → IsMember r class at → least ≤ at
    none_below at m = elim (cases_lt at least) [
      | inl below ↦ absurd (least_is at below ((strong least at least_member.inside m.inside).0 (least_member.of ∙ sym m.of)))
      | inr not_below ↦ not_below
    ]

    some_vertex : Contains (members r class) least
    some_vertex = member_is r class least least_member

    same_class : (u : Vertex) (a : ℕ) → IsNumber live r class u a → (b : ℕ) → b < size r → AreAlike S u (vertex_at live b) ↔ (class ≡ class_at r b)
    same_class u a n b b_in =
        subst (λ w. AreAlike S w (vertex_at live b) ↔ (class ≡ class_at r b)) n.is
        (subst (λ k. AreAlike S (vertex_at live a) (vertex_at live b) ↔ (k ≡ class_at r b)) n.member.of
        (alike_in_one_class S inode live edges piece parts r sized strong a b n.member.inside b_in))

    alike : (u v : Vertex) → Contains (vertices_of live r class) u → Contains live v → Contains (vertices_of live r class) v ↔ AreAlike S u v
    alike u v u_in v_in =
        let a = has_number live r class u u_in in (
          (λ m. let b = has_number live r class v m in subst (λ w. AreAlike S u w) b.1.is ((same_class u a.0 a.1 b.0 b.1.member.inside).1 (sym b.1.member.of))),
          (λ h.
              let e = numbered live v v_in in
              let b_in : v_in.0 < size r = omega (arith, v_in.1, sized) in
              let of = (same_class u a.0 a.1 v_in.0 b_in).0 (subst (λ w. AreAlike S u w) (sym e) h) in
              number_has live r class v v_in.0 (record { member = record { inside = b_in; of = sym of }; is = e })),
        )

    pub class_is : IsClass S live (vertices_of live r class)
    class_is = record {
      nonempty = (let l = some (members r class) least some_vertex in omega (arith, l, length-map (members r class) (vertex_at live)));
      sorted = vertices_rise live parts.live_are.sorted (members r class) (λ x m. (let k = is_member r class x m in omega (arith, k.inside, sized))) (members_rise r class);
      among = λ v m. (let k = has_number live r class v m in subst (λ w. Contains live w) k.1.is (is_live live k.0 (omega (arith, k.1.member.inside, sized))));
      alike = alike;
    }

  -- the least numbers rise with the classes
  least_rises : (i j : ℕ) (i_in : i < classes r) (j_in : j < classes r) → i < j → least i i_in < least j j_in
  least_rises i j i_in j_in low = elim (cases_lt (least i i_in) (least j j_in)) [
    | inl below ↦ below
    | inr not_below ↦ elim (cases_lt (least j j_in) (least i i_in)) [
      | inl above ↦ absurd (
          let up = numbers.rising (least j j_in) (least i i_in) (least_member i i_in).inside above (least_is j j_in) (least_is i i_in) in
          omega (arith, up, (least_member i i_in).of, (least_member j j_in).of, low))
      | inr not_above ↦ absurd (
          let same : least i i_in ≡ least j j_in = omega arith in
          let one : i ≡ j = sym (least_member i i_in).of ∙ ap (class_at r) same ∙ (least_member j j_in).of in
          omega (arith, one, low))
    ]
  ]

  pub classes_are : AreClasses S live (all_classes live r)
  classes_are = record {
    each = All-map (IsClass S live) (vertices_of live r) (range_with_len 0 (classes r)) (all_members (λ class. IsClass S live (vertices_of live r class)) (range_with_len 0 (classes r))
        (λ class m. class_is class (All-contains (λ c. c < classes r) (range_with_len 0 (classes r)) class (all_below (classes r)) m)));
    all = λ v m.
        let at_in : m.0 < size r = omega (arith, m.1, sized) in
        let class = class_at r m.0 in
        let inside = numbers.in_range m.0 at_in in (
          class,
          vertices_of live r class,
          omega (arith, inside, length-map-range_with_len (vertices_of live r) 0 (classes r)),
          class_there live r class (vertices_of live r class) inside,
          number_has live r class v m.0 (record { member = record { inside = at_in; of = refl }; is = numbered live v m }),
        );
    rising = λ i j d low high.
        let j_in : j < classes r = omega (arith, high, length-map-range_with_len (vertices_of live r) 0 (classes r)) in
        let i_in : i < classes r = omega (arith, low, j_in) in
        subst (λ c. LeastPointBelow c (get_or (all_classes live r) j d)) (sym (class_there live r i d i_in))
        (subst (λ c. LeastPointBelow (vertices_of live r i) c) (sym (class_there live r j d j_in))
        (begins_below live parts.live_are.sorted (members r i) (members r j) (members_rise r i) (least i i_in) (least j j_in) (some_vertex i i_in) (least_rises i j i_in j_in low)
        (some (members r j) (least j j_in) (some_vertex j j_in))
        (λ y m. (let k = is_member r j y m in (none_below j j_in y k, omega (arith, k.inside, sized))))));
  }
