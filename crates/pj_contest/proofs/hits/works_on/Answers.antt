use Rattle.std.proofs.Common.{sym, ap, ◌∙◌}
use Rattle.std.specs.List.{list_any}
use Rattle.pj_change.specs.Contested.{contests, deleted_at}
use Rattle.pj_contest.proofs.Named.{any_named, none_named, apart_pairs}
use Rattle.pj_contest.proofs.hits.works_on.Goals as goal

pub returns-in-None-clause-works : goal.returns-in-None-clause-works
returns-in-None-clause-works g c =
    let i = c.args.change.now in
    let q = c.args.range in
    sym (none_named c.args.owners.now q.owner (λ o. list_any (contests i o.name q.start q.end (deleted_at o q.start)) i.change.hunks) c.in-None.ensures.found)

pub returns-in-Some-clause-works : goal.returns-in-Some-clause-works
returns-in-Some-clause-works g c =
    let S = c.args.owners.now in
    let i = c.args.change.now in
    let q = c.args.range in
    let o = c.in-Some.o.now in
    let found = any_named S q.owner (λ o. list_any (contests i o.name q.start q.end (deleted_at o q.start)) i.change.hunks) (apart_pairs S c.in-Some.ensures.distinct) o c.in-Some.ensures.found.0 c.in-Some.ensures.found.1 in
    c.has_contesting.ensures ∙ ap (λ t. list_any (contests i o.name q.start q.end t) i.change.hunks) c.deleted_at.ensures ∙ sym found
