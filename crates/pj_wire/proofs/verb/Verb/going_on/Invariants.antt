use Rattle.std.proofs.Common.{ℕ, ◌<◌, get_or}
use Rattle.pj_wire.specs.declared.verb.Verb.TheVariants as verb
use Rattle.pj_wire.specs.Verbs.{GoesOn}
use Rattle.pj_wire.proofs.verb.Verb.going_on.Given as goal

abbrev pub invariant-loop-verb : goal.invariant-loop-verb
invariant-loop-verb l = (k : ℕ) → k < l.verb-index → GoesOn l.fn.self l.fn.read l.fn.byte (get_or l.verb-items k verb.Apply) → ⊥
