use Rattle.std.proofs.Common.{◌≡◌, take}
use Rattle.std.specs.Prelude.{sum_by}
use Rattle.pj_change.specs.Rules.{position_count}
use Rattle.pj_change.proofs.positions.place.Given as goal

abbrev pub invariant-loop-hunk : goal.invariant-loop-hunk
invariant-loop-hunk l = l.first ≡ sum_by position_count (take l.hunk-index l.hunk-items)
