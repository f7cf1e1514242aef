use Rattle.std.proofs.Common.{sym, ◌++◌}
use Rattle.std.specs.Prelude.{Contains}
use Rattle.pj_change.proofs.Gathering.{gathers_alike}
use Rattle.pj_dead.specs.DeadRows.{Departs}
use Rattle.pj_dead.specs.Known.{AreNeighbours}
use Rattle.pj_dead.proofs.Knowing.{gathers_list, departs_there, there_departs}
use Rattle.pj_dead.proofs.across.add_targets.Goals as goal

pub returns-clause-targets : goal.returns-clause-targets
returns-clause-targets g c =
    let h = g.V.View.graph c.args.view.now in
    let n = c.in-Some.neighbours.now in
    let are : AreNeighbours h c.args.end n = c.in_ok-learn.ensures.known.neighbours c.args.end n (sym c.in-Some.ensures) in
    let old = c.args.list.now.items in
    let live = n.outs.live.items in
    rw (c.in_ok-extend_from_slice.ensures.items, c.deref.ensures.value)
    (gathers_alike (Contains live) (Departs h c.args.end) old (old ++ live) (departs_there h c.args.end n are c.requires.vertex) (there_departs h c.args.end n are) (gathers_list old live))
