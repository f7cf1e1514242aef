use Rattle.std.proofs.Common.{◌≡◌, ℕ, ◌^◌, ◌<◌, length, take}
use Rattle.pj_bits.specs.Matrix.{size as size_of}
use Rattle.pj_layout.specs.Counts.{count, predecessors}
use Rattle.pj_layout.proofs.Digits.{AreWide}
use Rattle.pj_layout.proofs.counts.ColumnCounts.of.Given as goal

-- the rows of the first classes are counted
abbrev pub invariant-loop-class : goal.invariant-loop-class
invariant-loop-class l = record {
  room : length l.classes < 2 ^ length l.counts.digits.items;
  wide : AreWide (length l.row) l.counts.digits.items;
  row_width : length l.row ≡ size_of l.before;
  counted : (c : ℕ) → count l.counts.digits.items c ≡ predecessors l.before (take l.class-index l.classes) c;
}
