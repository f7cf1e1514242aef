use Rattle.std.proofs.Common.{◌<◌, sym, subst, length, List}
use Rattle.std.specs.Prelude.{IsTrue, ◌⊎◌, ◌∷◌}
use Rattle.pj_change.specs.declared.change.Record.{Record}
use Rattle.pj_change.specs.Sets.{HaveDistinctNames}
use Rattle.pj_contest.specs.Contests.{IsFree}
use Rattle.pj_contest.specs.Sought.{IsOfOne, KnowNoMore}
use Rattle.pj_contest.proofs.hits.hits_among.Goals as goal

pub is_hit-requires-clause-one : goal.is_hit-requires-clause-one
is_hit-requires-clause-one g c =
    let low : c.loop-range.range-index < length c.args.ranges.now = c.loop-range-test.true in
    subst (λ (l : List Record). IsOfOne (c.args.change.now ∷ l) c.range-item.result) (sym c.loop-range.invariant.owners) (c.requires.one c.range-item.result (c.loop-range.range-index, low, sym c.range-item.is))

pub is_hit-requires-clause-free : goal.is_hit-requires-clause-free
is_hit-requires-clause-free g c = subst (λ (l : List Record). IsFree l c.args.change.now) (sym c.loop-range.invariant.owners) c.requires.free

pub is_hit-requires-clause-know_more : goal.is_hit-requires-clause-know_more
is_hit-requires-clause-know_more g c = subst (λ (l : List Record). IsTrue c.args.know_more ⊎ KnowNoMore l) (sym c.loop-range.invariant.owners) c.requires.know_more

pub is_hit-requires-clause-distinct : goal.is_hit-requires-clause-distinct
is_hit-requires-clause-distinct g c = subst HaveDistinctNames (sym c.loop-range.invariant.owners) (g.met.P.Peers.distinct c.args.peers.now)
