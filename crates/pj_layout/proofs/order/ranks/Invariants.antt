use Rattle.std.proofs.Common.{◌≡◌, map}
use Rattle.std.specs.List.{range_with_len}
use Rattle.pj_bits.specs.Matrix.{size as size_of}
use Rattle.pj_layout.specs.Counts.{predecessors}
use Rattle.pj_layout.proofs.order.ranks.Given as goal

-- the first counts are read
abbrev pub invariant-loop-class : goal.invariant-loop-class
invariant-loop-class l = l.ranks.items ≡ map (predecessors l.before (range_with_len 0 (size_of l.before))) (range_with_len 0 l.class)
