use Rattle.std.proofs.Common.{◌∙◌, ap, subst, nat_lt}
use Rattle.pj_change.proofs.CountedContests.{counted_contested}
use Rattle.pj_change.proofs.DistinctRecords.{lawful_distinct}
use Rattle.pj_view.specs.Parts.{AreParts}
use Rattle.pj_view.proofs.view.SetView.status.Goals as goal

pub returns : goal.returns
returns c =
    let S = c.args.self.now in
    let parts = subst (λ l. AreParts l c.self.inside.outline.now c.self.inside.versions.now c.self.inside.contests.now) c.self.view_is c.self.invariant in
    let counts = c.counts-counts.ensures.set S (lawful_distinct S c.list-list.ensures.lawful) parts.contests_are in
    c.status.ensures.set S parts.versions_are (λ d m number h e. ap (nat_lt 0) (counts.there d m number h e) ∙ counted_contested S d h)
