use Rattle.std.proofs.Common.{ℕ, ◌<◌, ◌≤◌, length, take, All}
use Rattle.pj_change.specs.Inverse.{AreInverseNeeds, IsUndoable, HasInverse}
use Rattle.pj_inverse.proofs.needs.inverse_needs.Given as goal

abbrev pub invariant-loop-number : goal.invariant-loop-number
invariant-loop-number l = record {
  needs : AreInverseNeeds l.record (take l.number l.hunk-items) l.needs.keys;
  few : length l.needs.keys ≤ 256;
  undoable : All IsUndoable (take l.number l.hunk-items);
  before : (j : ℕ) → j < l.number → HasInverse l.record j;
}
