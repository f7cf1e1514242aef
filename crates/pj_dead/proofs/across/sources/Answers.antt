use Rattle.std.proofs.Common.{subst, List, []}
use Rattle.pj_change.specs.declared.point.Point.{Point}
use Rattle.pj_change.specs.Gathers.{Gathers}
use Rattle.pj_change.proofs.Gathering.{gathered}
use Rattle.pj_dead.specs.DeadRows.{Enters}
use Rattle.pj_dead.proofs.across.sources.Goals as goal

pub returns-clause-sources : goal.returns-clause-sources
returns-clause-sources g c =
    let h = g.V.View.graph c.args.view.now in
    let new = c.add_sources.new.list.items in
    let all : Gathers (Enters h c.args.at) [] new = subst (λ (l : List Point). Gathers (Enters h c.args.at) l new) c.new-list.ensures.items c.in_ok-add_sources.ensures.sources in
    λ p. (gathered (Enters h c.args.at) new all p, all.all p)
