use Rattle.std.proofs.Common.{take, []}
use Rattle.pj_change.specs.Gathers.{Gathers, IsOfOne}
use Rattle.pj_dead.specs.DeadRows.{Enters}
use Rattle.pj_dead.specs.Known.{AreKnown}
use Rattle.pj_dead.proofs.across.far_sources.Given as goal

abbrev pub invariant-loop-entry : goal.invariant-loop-entry
invariant-loop-entry g l = record {
  list : Gathers (IsOfOne (Enters (g.V.View.graph l.view)) (take l.entry-index l.entry-items)) [] l.list.items;
  known : AreKnown (g.V.View.graph l.view) l.known;
}
