use Rattle.pj_reach.specs.Searches.{state, IsSearched}
use Rattle.pj_reach.proofs.joining.across.Given as goal

abbrev pub invariant-loop-start : goal.invariant-loop-start
invariant-loop-start l = IsSearched l.edges l.inner l.start (state l.search)
