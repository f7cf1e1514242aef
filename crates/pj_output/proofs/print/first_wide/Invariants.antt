use Rattle.pj_print.proofs.Prints.{IsFirstFrom}
use Rattle.pj_output.proofs.print.first_wide.Given as goal

-- the first wide file of the entries that are left is that of all
abbrev pub invariant-loop-step : goal.invariant-loop-step
invariant-loop-step l = IsFirstFrom l.tables l.limit l.steps l.step-index
