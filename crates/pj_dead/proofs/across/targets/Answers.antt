use Rattle.std.proofs.Common.{subst, List, []}
use Rattle.pj_change.specs.declared.point.Point.{Point}
use Rattle.pj_change.specs.Gathers.{Gathers}
use Rattle.pj_change.proofs.Gathering.{gathered}
use Rattle.pj_dead.specs.DeadRows.{Departs}
use Rattle.pj_dead.proofs.across.targets.Goals as goal

pub returns-clause-targets : goal.returns-clause-targets
returns-clause-targets g c =
    let h = g.V.View.graph c.args.view.now in
    let new = c.add_targets.new.list.items in
    let all : Gathers (Departs h c.args.at) [] new = subst (λ (l : List Point). Gathers (Departs h c.args.at) l new) c.new-list.ensures.items c.in_ok-add_targets.ensures.targets in
    λ p. (gathered (Departs h c.args.at) new all p, all.all p)
