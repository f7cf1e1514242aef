use Rattle.std.proofs.Common.{◌∙◌, ap, nat_lt}
use Rattle.pj_change.proofs.CountedContests.{counted_contested}
use Rattle.pj_change.proofs.DistinctRecords.{lawful_distinct}
use Rattle.pj_tables.proofs.tables.Tables.status.Goals as goal

pub returns : goal.returns
returns c =
    let S = c.args.self.now in
    let counts = c.counts-counts.ensures.set S (lawful_distinct S c.list-list.ensures.lawful) c.contests-contests.ensures in
    c.status.ensures.set S c.versions.ensures (λ d m number h e. ap (nat_lt 0) (counts.there d m number h e) ∙ counted_contested S d h)
