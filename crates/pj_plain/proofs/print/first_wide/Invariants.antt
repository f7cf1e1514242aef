use Rattle.pj_change.specs.Shared.{records}
use Rattle.pj_print.proofs.Prints.{IsFirstFrom}
use Rattle.pj_plain.proofs.print.first_wide.Given as goal

-- the first wide file of the entries that are left is that of all
abbrev pub invariant-loop-step : goal.invariant-loop-step
invariant-loop-step l = IsFirstFrom (records l.set.changes.now) l.limit l.steps l.step-index
