use Rattle.std.proofs.Common.{length}
use Rattle.pj_reach.specs.Links.{edges_up_to}
use Rattle.pj_reach.proofs.Rows.{Following}
use Rattle.pj_reach.proofs.order.follow.Given as goal

abbrev pub invariant-loop-next : goal.invariant-loop-next
invariant-loop-next l = Following (length l.class_of) l.edges l.class_of l.classes l.vertex l.fn.before l.before l.next

abbrev pub decreases-loop-next : goal.decreases-loop-next
decreases-loop-next l = edges_up_to l.next
