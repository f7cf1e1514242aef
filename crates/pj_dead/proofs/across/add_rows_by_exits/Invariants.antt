use Rattle.std.proofs.Common.{take}
use Rattle.pj_change.specs.Gathers.{Gathers, IsOfOne}
use Rattle.pj_dead.specs.DeadRows.{Arrives, Departs}
use Rattle.pj_dead.proofs.EntryRows.{IsFromTo}
use Rattle.pj_dead.specs.Known.{AreKnown}
use Rattle.pj_dead.proofs.across.add_rows_by_exits.Given as goal

abbrev pub invariant-loop-exit : goal.invariant-loop-exit
invariant-loop-exit g l = let h = g.V.View.graph l.view in record {
  rows : Gathers (IsOfOne (λ u. IsFromTo (Arrives h u) (Departs h u) l.least) (take l.exit-index l.set)) l.initial.rows.items l.rows.items;
  known : AreKnown h l.known;
}
