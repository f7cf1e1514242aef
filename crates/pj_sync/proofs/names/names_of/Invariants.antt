use Rattle.std.proofs.Common.{◌≡◌, ◌++◌, length}
use Rattle.pj_machine.specs.Listings.{log_text}
use Rattle.pj_sync.proofs.names.names_of.Given as goal

abbrev pub invariant-loop-rest : goal.invariant-loop-rest
invariant-loop-rest l = l.body ≡ log_text l.names.items ++ l.rest

abbrev pub decreases-loop-rest : goal.decreases-loop-rest
decreases-loop-rest l = length l.rest
