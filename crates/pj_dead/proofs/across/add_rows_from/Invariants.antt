use Rattle.std.proofs.Common.{take}
use Rattle.pj_change.specs.Gathers.{Gathers, IsOfOne}
use Rattle.pj_dead.proofs.EntryRows.{IsFrom}
use Rattle.pj_dead.proofs.across.add_rows_from.Given as goal

abbrev pub invariant-loop-target : goal.invariant-loop-target
invariant-loop-target l = Gathers (IsOfOne (IsFrom l.source l.least l.targets) (take l.target-index l.targets)) l.initial.rows.items l.rows.items
