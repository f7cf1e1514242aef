use Rattle.std.proofs.Common.{◌≡◌, take}
use Rattle.std.specs.Prelude.{sum_by}
use Rattle.pj_change.specs.Rules.{position_count}
use Rattle.pj_change.specs.Inverse.{UndoEach}
use Rattle.pj_inverse.proofs.hunks.undo_each.Given as goal

abbrev pub invariant-loop-hunk : goal.invariant-loop-hunk
invariant-loop-hunk l = record {
  first : l.first ≡ sum_by position_count (take l.hunk-index l.hunk-items);
  undone : UndoEach l.record l.needs 0 (take l.hunk-index l.hunk-items) l.hunks.items;
}
