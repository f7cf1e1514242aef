use Rattle.std.proofs.Common.{◌≡◌, true, take}
use Rattle.std.specs.List.{list_all}
use Rattle.pj_change.specs.Context.{holds}
use Rattle.pj_change.specs.Shared.{records}
use Rattle.pj_context.proofs.contexts.check.Given as goal

abbrev pub invariant-loop-number : goal.invariant-loop-number
invariant-loop-number l = list_all (holds l.record (records l.needs)) (take l.number l.hunk-items) ≡ true
