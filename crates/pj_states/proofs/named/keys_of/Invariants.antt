use Rattle.std.proofs.Common.{◌≡◌, map, take}
use Rattle.pj_states.specs.Named.{named_at}
use Rattle.pj_states.proofs.named.keys_of.Given as goal

abbrev pub invariant-loop-name : goal.invariant-loop-name
invariant-loop-name l = l.keys.items ≡ map (λ name. named_at name l.by) (take l.name-index l.names)
