use Rattle.std.proofs.Common.{◌≡◌, [], subst, rules}
use Rattle.pj_reach.specs.Searches.{state, IsSearch}
use Rattle.pj_reach.proofs.Searching.{state_of, Searching, last_waits, last_taken, searching_step, searching_end}
use Rattle.pj_reach.proofs.joining.Search.search.Goals as goal

pub follow-requires-clause-way : goal.follow-requires-clause-way
follow-requires-clause-way c =
    (last_waits c.args.edges.now c.args.inner.now c.args.start c.in-Some.at c.loop-at.self.reached_from.items c.pop.new.self.items c.loop-at.self.pairs.items
    (subst (λ xs. IsSearch c.args.edges.now c.args.inner.now c.args.start (state_of c.loop-at.self.reached_from.items xs c.loop-at.self.pairs.items)) c.in-Some.ensures.items c.loop-at.invariant.search)).1

pub follow-requires-clause-search : goal.follow-requires-clause-search
follow-requires-clause-search c =
    last_taken c.args.edges.now c.args.inner.now c.args.start c.in-Some.at c.loop-at.self.reached_from.items c.pop.new.self.items c.loop-at.self.pairs.items
    (subst (λ xs. IsSearch c.args.edges.now c.args.inner.now c.args.start (state_of c.loop-at.self.reached_from.items xs c.loop-at.self.pairs.items)) c.in-Some.ensures.items c.loop-at.invariant.search)

pub loop-at-preserved : goal.loop-at-preserved
loop-at-preserved c =
    searching_step c.args.edges.now c.args.inner.now c.args.start c.in-Some.at c.loop-at.self.reached_from.items c.pop.new.self.items c.loop-at.self.pairs.items (state c.args.self.now) (state c.follow.new.self)
    (subst (λ xs. Searching c.args.edges.now c.args.inner.now c.args.start (state c.args.self.now) (state_of c.loop-at.self.reached_from.items xs c.loop-at.self.pairs.items)) c.in-Some.ensures.items c.loop-at.invariant)
    c.in_ok-follow.ensures.search c.in_ok-follow.ensures.goes_on c.in_ok-follow.ensures.followed

pub returns : goal.returns
returns c =
    let none_waits : c.loop-at.self.waiting.items ≡ [] = search rules in
    let none_left : c.pop.new.self.items ≡ [] = search rules in
    searching_end c.args.edges.now c.args.inner.now c.args.start (state c.args.self.now) c.loop-at.self.reached_from.items c.loop-at.self.waiting.items c.pop.new.self.items c.loop-at.self.pairs.items
    c.requires.searched c.loop-at.invariant none_waits none_left
