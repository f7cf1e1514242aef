use Rattle.std.proofs.Common.{◌≡◌, ◌-◌, length}
use Rattle.pj_dead.specs.Searches.{IsWalked}
use Rattle.pj_view.specs.SetGraph.{graph_of}
use Rattle.pj_view.proofs.view.SetViewView.outs.Given as goal

abbrev pub invariant-loop-next : goal.invariant-loop-next
invariant-loop-next l = record {
  same : l.walk ≡ l.initial.walk;
  walked : IsWalked ((graph_of l.self).outs l.fn.at) l.outs.items l.next;
}

abbrev pub decreases-loop-next : goal.decreases-loop-next
decreases-loop-next l = length ((graph_of l.self).outs l.fn.at) - length l.outs.items
