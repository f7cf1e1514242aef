use Rattle.std.proofs.Common.{◌≡◌, ◌<◌, ℕ, true, map}
use Rattle.std.specs.Prelude.{Contains, slice_index}
use Rattle.pj_bits.specs.Matrix.{size as size_of}
use Rattle.pj_bits.specs.Row.{has, size as columns}
use Rattle.pj_layout.specs.Orders.{Before}
use Rattle.pj_layout.specs.Parts.{Joins}
use Rattle.pj_layout.proofs.PartsFound.{ArePartsSoFar}
use Rattle.pj_layout.proofs.search.linked_sets.Given as goal

-- the classes before this one are set in the row, and no others
abbrev pub invariant-loop-class : goal.invariant-loop-class
invariant-loop-class l = record {
  size : columns l.rest ≡ size_of l.order.before.now;
  only : (x : ℕ) → has l.rest x ≡ true → Contains l.classes x;
  each : (i : ℕ) → i < l.class-index → has l.rest (slice_index l.classes i) ≡ true;
}

abbrev pub invariant-loop-class-2 : goal.invariant-loop-class-2
invariant-loop-class-2 l = record {
  size : columns l.rest ≡ size_of l.order.before.now;
  parts : ArePartsSoFar (Joins l.link (Before l.order.before.now)) l.classes l.class-index l.rest (map (λ part. part.items) l.parts.items);
}
