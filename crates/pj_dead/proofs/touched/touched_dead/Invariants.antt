use Rattle.std.proofs.Common.{take, []}
use Rattle.pj_change.specs.Gathers.{Gathers, IsOfOne}
use Rattle.pj_dead.specs.Known.{AreKnown}
use Rattle.pj_dead.proofs.TouchedRows.{IsDeadAt}
use Rattle.pj_dead.proofs.touched.touched_dead.Given as goal

abbrev pub invariant-loop-point : goal.invariant-loop-point
invariant-loop-point g l = let h = g.V.View.graph l.view in record {
  dead : Gathers (IsOfOne (IsDeadAt h) (take l.point-index l.touched)) [] l.dead.items;
  known : AreKnown h l.known;
}
