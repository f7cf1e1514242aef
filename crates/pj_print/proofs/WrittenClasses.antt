-- The classes of a file as they are written.
use Rattle.std.proofs.Common.{◌≡◌, ℕ, ◌<◌, List, length, map, refl, sym, subst, arith}
use Rattle.std.specs.Prelude.{Contains, IsTrue, ◌↔◌}
use Rattle.std.specs.List.{AllZip, range_with_len}
use Rattle.std.proofs.lemmas.List.Elements.{All-contains}
use Rattle.pj_change.specs.declared.point.Point.{Point}
use Rattle.pj_change.specs.declared.graph.Vertex.{Vertex}
use Rattle.pj_change.specs.declared.change.Record.{Record}
use Rattle.pj_change.specs.Before.{IsBefore}
use Rattle.pj_change.specs.MarkedText.{Piece}
use Rattle.pj_change.specs.FileText.{IsPiece, IsWritten}
use Rattle.pj_layout.proofs.Predecessors.{all_below}
use Rattle.pj_reach.specs.Closure.{Closure, size, classes, is_cyclic, IsNumberedByLeast, HasCyclicClasses}
use Rattle.pj_marks.specs.Classes.{members, class_of, classes_of}
use Rattle.pj_print.specs.FileParts.{AreParts}
use Rattle.pj_print.proofs.Mapped.{zipped}
use Rattle.pj_print.proofs.Numbers.{is_member, vertex_at, vertices_of, found, has_number, number_has}
use Rattle.pj_print.proofs.ClassesOf.{all_classes}

module _ (S : List Record) (inode : Point) (live : List Vertex) (edges : List (ℕ × ℕ)) (piece : ℕ → Piece) (parts : AreParts S inode live edges piece) (r : Closure) (sized : length live ≡ size r)
    (numbers : IsNumberedByLeast edges r) (cycles : HasCyclicClasses edges r) where
  -- a class is cyclic where a vertex of it is before itself
  cyclic : (class : ℕ) → class < classes r → IsTrue (is_cyclic r class) ↔ ((v : Vertex) × Contains (vertices_of live r class) v × IsBefore S v v)
  cyclic class inside = (there, back)
    where
      there : IsTrue (is_cyclic r class) → (v : Vertex) × Contains (vertices_of live r class) v × IsBefore S v v
      there h =
          let least = numbers.least class inside in
          let path = (cycles least.0 least.1).0 (subst (λ k. IsTrue (is_cyclic r k)) (sym least.2) h) in
          let is = found live least.0 (omega (arith, least.1, sized)) in (
            vertex_at live least.0,
            number_has live r class (vertex_at live least.0) least.0 (record { member = record { inside = least.1; of = least.2 }; is = refl }),
            (parts.before least.0 least.0 (vertex_at live least.0) (vertex_at live least.0) is is).0 path,
          )

      back : (v : Vertex) × Contains (vertices_of live r class) v × IsBefore S v v → IsTrue (is_cyclic r class)
      back h =
          let k = has_number live r class h.0 h.1 in
          let is = found live k.0 (omega (arith, k.1.member.inside, sized)) in
          let path = (parts.before k.0 k.0 (vertex_at live k.0) (vertex_at live k.0) is is).1 (subst (λ v. IsBefore S v v) (sym k.1.is) h.2) in
          subst (λ c. IsTrue (is_cyclic r c)) k.1.member.of ((cycles k.0 k.1.member.inside).1 path)

  pieces : (class : ℕ) → AllZip (IsPiece S) (vertices_of live r class) (map piece (members r class))
  pieces class = zipped (IsPiece S) (vertex_at live) piece (members r class)
      (λ at m. (let k = is_member r class at m in parts.pieces at (vertex_at live at) (found live at (omega (arith, k.inside, sized)))))

  pub classes_are_written : AllZip (IsWritten S) (all_classes live r) (classes_of piece r)
  classes_are_written = zipped (IsWritten S) (vertices_of live r) (class_of piece r) (range_with_len 0 (classes r))
      (λ class m. record { cyclic = cyclic class (All-contains (λ c. c < classes r) (range_with_len 0 (classes r)) class (all_below (classes r)) m); pieces = pieces class })
