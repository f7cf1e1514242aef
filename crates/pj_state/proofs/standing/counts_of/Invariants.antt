use Rattle.std.proofs.Common.{◌≡◌, ◌++◌, map}
use Rattle.pj_state.specs.IsKept.{count}
use Rattle.pj_state.proofs.standing.counts_of.Given as goal

abbrev pub invariant-loop-name : goal.invariant-loop-name
invariant-loop-name l = l.counts.items ++ map count l.name-iterator ≡ map count l.channels.entries
