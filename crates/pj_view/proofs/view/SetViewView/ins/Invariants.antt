use Rattle.std.proofs.Common.{◌≡◌, ◌-◌, length}
use Rattle.pj_view.specs.SetGraph.{graph_of}
use Rattle.pj_view.proofs.SourceWalks.{IsFollowed}
use Rattle.pj_view.proofs.view.SetViewView.ins.Given as goal

abbrev pub invariant-loop-next : goal.invariant-loop-next
invariant-loop-next l = record {
  same : l.walk ≡ l.initial.walk;
  followed : IsFollowed l.self (graph_of l.self) l.initial.walk l.fn.at l.ins.items l.next;
}

abbrev pub decreases-loop-next : goal.decreases-loop-next
decreases-loop-next l = length ((graph_of l.self).ins l.fn.at) - length l.ins.items
