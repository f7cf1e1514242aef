use Rattle.pj_change.specs.Shared.{records}
use Rattle.pj_print.proofs.Prints.{AreEntriesUpTo}
use Rattle.pj_plain.proofs.print.entries.Given as goal

-- the bytes so far, and those of the entries that are left, are those of all
abbrev pub invariant-loop-step : goal.invariant-loop-step
invariant-loop-step l = AreEntriesUpTo (records l.set.changes.now) l.steps l.out.items l.step-index
