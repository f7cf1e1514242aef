use Rattle.pj_reach.specs.Links.{edges_up_to}
use Rattle.pj_reach.specs.Searches.{state}
use Rattle.pj_reach.proofs.Searching.{Following}
use Rattle.pj_reach.proofs.joining.Search.follow.Given as goal

abbrev pub invariant-loop-next : goal.invariant-loop-next
invariant-loop-next l = Following l.edges l.inner l.start l.at (state l.fn.self) (state l.self) l.next

abbrev pub decreases-loop-next : goal.decreases-loop-next
decreases-loop-next l = edges_up_to l.next
