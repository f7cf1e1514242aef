use Rattle.std.proofs.Common.{◌≡◌, ◌-◌, ◌≤◌, length}
use Rattle.std.specs.Prelude.{filter}
use Rattle.std.specs.List.{range_with_len}
use Rattle.pj_bits.specs.Row.{has}
use Rattle.pj_bits.proofs.row.BitRow.ones.Given as goal

-- those before this column are found
abbrev pub invariant-loop-column : goal.invariant-loop-column
invariant-loop-column l = record {
  inside : l.from ≤ length l.self;
  found : l.ones.items ≡ filter (has l.self) (range_with_len 0 l.from);
}

abbrev pub decreases-loop-column : goal.decreases-loop-column
decreases-loop-column l = length l.self - l.from
