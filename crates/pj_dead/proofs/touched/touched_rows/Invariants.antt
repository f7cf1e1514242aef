use Rattle.std.proofs.Common.{take}
use Rattle.pj_dead.specs.Searches.{AreRowsOfSets}
use Rattle.pj_dead.specs.Known.{AreKnown}
use Rattle.pj_dead.proofs.touched.touched_rows.Given as goal

abbrev pub invariant-loop-at : goal.invariant-loop-at
invariant-loop-at g l = record {
  sets : AreRowsOfSets (g.V.View.graph l.view) (take l.at-index l.at-items) l.sets.seen l.sets.rows.items;
  known : AreKnown (g.V.View.graph l.view) l.known;
}
