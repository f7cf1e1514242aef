use Rattle.std.proofs.Common.{◌≡◌, map, take}
use Rattle.pj_change.specs.Positions.{numbered}
use Rattle.pj_states.proofs.changes.names_of.Given as goal

abbrev pub invariant-loop-number : goal.invariant-loop-number
invariant-loop-number l = l.names.items ≡ map (numbered l.record) (take l.number-index l.numbers)
