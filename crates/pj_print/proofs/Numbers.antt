-- The live vertices of a file by number, and the numbers of each class.
use Rattle.std.proofs.Common.{◌≡◌, ℕ, suc, ◌+◌, ◌<◌, List, [], ◌∷◌, length, get_or, map, nat_eq, refl, ◌∙◌, ap, subst, inl, inr, arith}
use Rattle.std.specs.Prelude.{Contains, Some, slice_get, ◌↔◌}
use Rattle.std.specs.List.{range_with_len}
use Rattle.std.specs.Ordering.{nat_cmp}
use Rattle.std.specs.declared.cmp.Ordering.TheVariants.{Less}
use Rattle.std.specs.List.Sorted.{IsStrictlySortedBy}
use Rattle.std.proofs.lemmas.Bool.{eq-eqb, eqb-true}
use Rattle.std.proofs.lemmas.List.FromFn.{length-range_with_len, get_or-range_with_len}
use Rattle.std.proofs.lemmas.List.Elements.{All-contains, Contains-get_or}
use Rattle.std.proofs.lemmas.List.Kept.{IsStrictlySortedBy-filter}
use Rattle.std.proofs.lemmas.Map.Keys.{Less-from_sorted, below_from_sorted}
use Rattle.std.proofs.lemmas.Option.{slice_get-get_or, get_or_from_slice_get}
use Rattle.pj_name.specs.Name.{no_name}
use Rattle.pj_change.specs.declared.point.Point.{Point}
use Rattle.pj_change.specs.declared.graph.Vertex.{Vertex}
use Rattle.pj_change.specs.declared.graph.VertexKind.TheVariants.{Text}
use Rattle.pj_change.specs.declared.graph.Status.TheVariants.{Dead}
use Rattle.pj_change.specs.declared.change.Record.{Record}
use Rattle.pj_change.specs.Graph.{vertex_cmp}
use Rattle.pj_change.specs.MarkedText.{Piece}
use Rattle.pj_change.specs.FileText.{AreAlike}
use Rattle.pj_change.proofs.Members.{later_member, from_each}
use Rattle.pj_change.proofs.ListNumbers.{one_number}
use Rattle.pj_change.proofs.Orders.{vertex_total}
use Rattle.pj_layout.proofs.Filters.{filtered_member, member_filtered}
use Rattle.pj_layout.proofs.Predecessors.{all_below, range_sorted}
use Rattle.pj_reach.specs.Closure.{Closure, size, class_at, HasStrongClasses}
use Rattle.pj_marks.specs.Classes.{members}
use Rattle.pj_print.specs.FileParts.{AreParts}
use Rattle.pj_change.proofs.PickedMembers.{mapped, image}

-- ---- the numbers of a class

-- a number of this class
pub record IsMember (r : Closure) (class at : ℕ) : Type 0 where
  pub inside : at < size r
  pub of : class_at r at ≡ class

module _ (r : Closure) (class : ℕ) where
  pub is_member : (at : ℕ) → Contains (members r class) at → IsMember r class at
  is_member at m =
      let k = member_filtered (λ b. nat_eq (class_at r b) class) (range_with_len 0 (size r)) at m in
      record { inside = All-contains (λ b. b < size r) (range_with_len 0 (size r)) at (all_below (size r)) k.0; of = eqb-true (class_at r at) class k.1 }

  pub member_is : (at : ℕ) → IsMember r class at → Contains (members r class) at
  member_is at m = filtered_member (λ b. nat_eq (class_at r b) class) (range_with_len 0 (size r)) at
      (at, omega (arith, m.inside, length-range_with_len 0 (size r)), get_or-range_with_len 0 (size r) at at m.inside ∙ (let e : 0 + at ≡ at = omega arith in e))
      (eq-eqb (class_at r at) class m.of)

  pub members_rise : IsStrictlySortedBy nat_cmp (members r class)
  members_rise = IsStrictlySortedBy-filter nat_cmp (λ b. nat_eq (class_at r b) class) (range_with_len 0 (size r)) (range_sorted (size r))

-- ---- the vertices

-- a vertex, where there is none
abbrev pub no_vertex : Vertex
no_vertex = record { change = no_name; start = 0; end = 0; kind = Text; status = Dead }

-- the live vertex with this number
abbrev pub vertex_at : List Vertex → ℕ → Vertex
vertex_at live at = get_or live at no_vertex

-- the live vertices of a class
abbrev pub vertices_of : List Vertex → Closure → ℕ → List Vertex
vertices_of live r class = map (vertex_at live) (members r class)

module _ (live : List Vertex) where
  pub found : (at : ℕ) → at < length live → slice_get live at ≡ Some (vertex_at live at)
  found at inside = slice_get-get_or live at no_vertex inside

  pub is_live : (at : ℕ) → at < length live → Contains live (vertex_at live at)
  is_live at inside = Contains-get_or live at no_vertex inside

  -- a live vertex has a number
  pub numbered : (v : Vertex) (m : Contains live v) → vertex_at live m.0 ≡ v
  numbered v m = get_or_from_slice_get live m.0 (get_or live m.0 v) no_vertex (slice_get-get_or live m.0 v m.1) ∙ m.2

  -- vertices by rising numbers are by rising first points
  pub rising : IsStrictlySortedBy vertex_cmp live → (xs : List ℕ) → ((x : ℕ) → Contains xs x → x < length live) → IsStrictlySortedBy nat_cmp xs → IsStrictlySortedBy vertex_cmp (map (vertex_at live) xs)
  unfolding IsStrictlySortedBy
  rising sorted [] inside s = tt
  rising sorted (x ∷ xs) inside s =
      (from_each (λ v. vertex_cmp (vertex_at live x) v ≡ Less) (map (vertex_at live) xs) behind, rising sorted xs (λ y m. inside y (later_member x xs y m)) s.1)
    where
      behind : (v : Vertex) → Contains (map (vertex_at live) xs) v → vertex_cmp (vertex_at live x) v ≡ Less
      behind v m =
          let k = image (vertex_at live) xs v m in
          let below : x < get_or (x ∷ xs) (suc k.member.0) k.it = below_from_sorted (x ∷ xs) 0 (suc k.member.0) k.it s (omega arith) (omega (arith, k.member.1)) in
          let less : x < k.it = omega (arith, below, k.member.2) in
          subst (λ w. vertex_cmp (vertex_at live x) w ≡ Less) k.is (Less-from_sorted vertex_cmp live x k.it no_vertex sorted less (inside k.it (later_member x xs k.it k.member)))

-- a vertex of a class has a number of the class
pub record IsNumber (live : List Vertex) (r : Closure) (class : ℕ) (v : Vertex) (at : ℕ) : Type 0 where
  pub member : IsMember r class at
  pub is : vertex_at live at ≡ v

pub has_number : (live : List Vertex) (r : Closure) (class : ℕ) (v : Vertex) → Contains (vertices_of live r class) v → (at : ℕ) × IsNumber live r class v at
has_number live r class v m = (let k = image (vertex_at live) (members r class) v m in (k.it, record { member = is_member r class k.it k.member; is = k.is }))

pub number_has : (live : List Vertex) (r : Closure) (class : ℕ) (v : Vertex) (at : ℕ) → IsNumber live r class v at → Contains (vertices_of live r class) v
number_has live r class v at n = subst (λ w. Contains (vertices_of live r class) w) n.is (mapped (vertex_at live) (members r class) at (member_is r class at n.member))

-- ---- alike vertices have numbers of one class

module _ (S : List Record) (inode : Point) (live : List Vertex) (edges : List (ℕ × ℕ)) (piece : ℕ → Piece) (parts : AreParts S inode live edges piece) (r : Closure) (sized : length live ≡ size r) (strong : HasStrongClasses edges r) where
  alike_is : (a b : ℕ) → a < size r → b < size r → class_at r a ≡ class_at r b → AreAlike S (vertex_at live a) (vertex_at live b)
  alike_is a b a_in b_in same =
      let u_is = found live a (omega arith) in
      let v_is = found live b (omega arith) in
      elim ((strong a b a_in b_in).0 same) [
        | inl e ↦ inl (subst (λ c. vertex_at live a ≡ vertex_at live c) e refl)
        | inr k ↦ inr ((parts.before a b (vertex_at live a) (vertex_at live b) u_is v_is).0 k.0, (parts.before b a (vertex_at live b) (vertex_at live a) v_is u_is).0 k.1)
      ]

  is_alike : (a b : ℕ) → a < size r → b < size r → AreAlike S (vertex_at live a) (vertex_at live b) → class_at r a ≡ class_at r b
  is_alike a b a_in b_in alike =
      let u_is = found live a (omega arith) in
      let v_is = found live b (omega arith) in
      (strong a b a_in b_in).1 (elim alike [
        | inl e ↦ inl (one_number vertex_cmp vertex_total live parts.live_are.sorted a b (vertex_at live b) (u_is ∙ ap Some e) v_is)
        | inr k ↦ inr ((parts.before a b (vertex_at live a) (vertex_at live b) u_is v_is).1 k.0, (parts.before b a (vertex_at live b) (vertex_at live a) v_is u_is).1 k.1)
      ])

  pub alike_in_one_class : (a b : ℕ) → a < size r → b < size r → AreAlike S (vertex_at live a) (vertex_at live b) ↔ (class_at r a ≡ class_at r b)
  alike_in_one_class a b a_in b_in = (is_alike a b a_in b_in, alike_is a b a_in b_in)
