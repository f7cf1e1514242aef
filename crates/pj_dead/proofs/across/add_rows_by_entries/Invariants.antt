use Rattle.std.proofs.Common.{take}
use Rattle.pj_change.specs.Gathers.{Gathers, IsOfOne}
use Rattle.pj_dead.specs.DeadRows.{Enters, Leaves}
use Rattle.pj_dead.proofs.EntryRows.{IsFromTo}
use Rattle.pj_dead.specs.Known.{AreKnown}
use Rattle.pj_dead.proofs.across.add_rows_by_entries.Given as goal

abbrev pub invariant-loop-entry : goal.invariant-loop-entry
invariant-loop-entry g l = let h = g.V.View.graph l.view in record {
  rows : Gathers (IsOfOne (λ u. IsFromTo (Enters h u) (Leaves h u) l.least) (take l.entry-index l.set)) l.initial.rows.items l.rows.items;
  known : AreKnown h l.known;
}
