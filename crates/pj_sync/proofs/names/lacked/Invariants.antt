use Rattle.std.proofs.Common.{◌≡◌, take}
use Rattle.pj_exchange.specs.Phases.{lacked}
use Rattle.pj_sync.proofs.names.lacked.Given as goal

abbrev pub invariant-loop-name : goal.invariant-loop-name
invariant-loop-name l = l.names.items ≡ lacked l.mine (take l.name-index l.theirs)
