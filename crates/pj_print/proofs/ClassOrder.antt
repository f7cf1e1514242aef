-- The order between the strong classes is that between the classes of a file.
use Rattle.std.proofs.Common.{◌≡◌, ℕ, ◌<◌, true, List, [], length, get_or, refl, sym, ◌∙◌, ap, subst, inl, inr, arith}
use Rattle.std.specs.Prelude.{Contains, Some}
use Rattle.std.proofs.lemmas.Bool.{cases_lt}
use Rattle.std.proofs.lemmas.List.{get_or_past}
use Rattle.std.proofs.lemmas.List.FromFn.{length-map-range_with_len}
use Rattle.pj_bits.specs.Matrix.{bit}
use Rattle.pj_change.specs.declared.point.Point.{Point}
use Rattle.pj_change.specs.declared.graph.Vertex.{Vertex}
use Rattle.pj_change.specs.declared.change.Record.{Record}
use Rattle.pj_change.specs.Layout.{Shape, IsLayout}
use Rattle.pj_change.specs.MarkedText.{Piece}
use Rattle.pj_change.specs.FileText.{IsClassBefore}
use Rattle.pj_change.proofs.Members.{no_member, moved}
use Rattle.pj_change.proofs.SameLayouts.{layout-same}
use Rattle.pj_layout.specs.Orders.{Before}
use Rattle.pj_reach.specs.Closure.{Closure, size, classes, class_at, IsNumberedByLeast, HasOrder}
use Rattle.pj_print.specs.FileParts.{AreParts}
use Rattle.pj_print.proofs.Numbers.{vertex_at, vertices_of, found, has_number, number_has}
use Rattle.pj_print.proofs.ClassesOf.{all_classes, class_there}

-- a class with a vertex is one of the classes
within : (live : List Vertex) (r : Closure) (class : ℕ) (v : Vertex) → Contains (get_or (all_classes live r) class []) v → class < classes r
within live r class v m = elim (cases_lt class (classes r)) [
  | inl inside ↦ inside
  | inr past ↦ absurd (no_member v (moved v (get_or_past (all_classes live r) class [] (omega (arith, past, length-map-range_with_len (vertices_of live r) 0 (classes r)))) m))
]

module _ (S : List Record) (inode : Point) (live : List Vertex) (edges : List (ℕ × ℕ)) (piece : ℕ → Piece) (parts : AreParts S inode live edges piece) (r : Closure) (sized : length live ≡ size r)
    (numbers : IsNumberedByLeast edges r) (order : HasOrder edges r) (inside : (x y : ℕ) → bit r.before x y ≡ true → (x < classes r) × (y < classes r)) where
  to_classes : (i j : ℕ) → Before r.before i j → IsClassBefore S (all_classes live r) i j
  to_classes i j h =
      let at = inside i j h in
      let a = numbers.least i at.0 in
      let b = numbers.least j at.1 in
      let path = (order a.0 b.0 a.1 b.1).0 (subst (λ x. Before r.before x (class_at r b.0)) (sym a.2) (subst (λ y. Before r.before i y) (sym b.2) h)) in
      record {
        apart = λ e. path.0 (a.2 ∙ e ∙ sym b.2);
        u = vertex_at live a.0;
        v = vertex_at live b.0;
        u_in = moved (vertex_at live a.0) (sym (class_there live r i [] at.0)) (number_has live r i (vertex_at live a.0) a.0 (record { member = record { inside = a.1; of = a.2 }; is = refl }));
        v_in = moved (vertex_at live b.0) (sym (class_there live r j [] at.1)) (number_has live r j (vertex_at live b.0) b.0 (record { member = record { inside = b.1; of = b.2 }; is = refl }));
        before = (parts.before a.0 b.0 (vertex_at live a.0) (vertex_at live b.0) (found live a.0 (omega (arith, a.1, sized))) (found live b.0 (omega (arith, b.1, sized)))).0 path.1;
      }

  to_bits : (i j : ℕ) → IsClassBefore S (all_classes live r) i j → Before r.before i j
  to_bits i j h =
      let a = has_number live r i h.u (moved h.u (class_there live r i [] (within live r i h.u h.u_in)) h.u_in) in
      let b = has_number live r j h.v (moved h.v (class_there live r j [] (within live r j h.v h.v_in)) h.v_in) in
      let path = (parts.before a.0 b.0 h.u h.v (found live a.0 (omega (arith, a.1.member.inside, sized)) ∙ ap Some a.1.is) (found live b.0 (omega (arith, b.1.member.inside, sized)) ∙ ap Some b.1.is)).1 h.before in
      subst (λ x. Before r.before x j) a.1.member.of
      (subst (λ y. Before r.before (class_at r a.0) y) b.1.member.of
      ((order a.0 b.0 a.1.member.inside b.1.member.inside).1 ((λ e. h.apart (sym a.1.member.of ∙ e ∙ b.1.member.of)), path)))

  -- a layout under the one is one under the other
  pub layout_of_classes : (X : List ℕ) (s : Shape) → IsLayout (Before r.before) 0 X s → IsLayout (IsClassBefore S (all_classes live r)) 0 X s
  layout_of_classes X s h = layout-same (Before r.before) (IsClassBefore S (all_classes live r)) to_classes to_bits 0 X s h
