use Rattle.std.proofs.Common.{◌-◌, length}
use Rattle.pj_dead.specs.Searches.{AreReached, IsClosedTo}
use Rattle.pj_dead.specs.Known.{AreKnown}
use Rattle.pj_dead.proofs.search.reached.Given as goal

abbrev pub invariant-loop-done : goal.invariant-loop-done
invariant-loop-done g l = record {
  so_far : AreReached (g.V.View.graph l.view) l.way l.fn.from l.found;
  closed : IsClosedTo (g.V.View.graph l.view) l.way l.found l.done;
  known : AreKnown (g.V.View.graph l.view) l.known;
}

abbrev pub decreases-loop-done : goal.decreases-loop-done
decreases-loop-done g l = length (g.V.View.graph l.view).vertices - l.done
