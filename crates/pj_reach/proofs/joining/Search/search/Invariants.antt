use Rattle.pj_reach.specs.Searches.{state, work}
use Rattle.pj_reach.proofs.Searching.{Searching}
use Rattle.pj_reach.proofs.joining.Search.search.Given as goal

abbrev pub invariant-loop-at : goal.invariant-loop-at
invariant-loop-at l = Searching l.edges l.inner l.start (state l.fn.self) (state l.self)

abbrev pub decreases-loop-at : goal.decreases-loop-at
decreases-loop-at l = work l.start (state l.self)
