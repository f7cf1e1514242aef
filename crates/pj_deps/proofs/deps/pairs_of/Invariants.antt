use Rattle.std.proofs.Common.{◌≡◌, map, take}
use Rattle.pj_deps.specs.Dependents.{pair}
use Rattle.pj_deps.proofs.deps.pairs_of.Given as goal

abbrev pub invariant-loop-need : goal.invariant-loop-need
invariant-loop-need l = l.pairs.items ≡ map (λ need. pair need l.holder) (take l.need-index l.record.change.needs)
