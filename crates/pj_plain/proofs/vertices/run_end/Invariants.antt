use Rattle.std.proofs.Common.{◌≡◌, ℕ, ◌<◌, false}
use Rattle.pj_change.specs.Positions.{own_point}
use Rattle.pj_change.specs.Vertices.{is_cut}
use Rattle.pj_change.specs.Shared.{records}
use Rattle.pj_plain.proofs.vertices.run_end.Given as goal

-- no cut lies between the start and the offset
abbrev pub invariant-loop-offset : goal.invariant-loop-offset
invariant-loop-offset l = (k : ℕ) → l.start < k → k < l.offset → is_cut (records l.changes) (own_point l.owner k) ≡ false
