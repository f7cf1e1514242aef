use Rattle.std.proofs.Common.{◌≡◌, ℕ, ◌<◌, Option, Some, None, length, sym, subst, rules}
use Rattle.pj_reach.specs.Links.{source, edges_up_to, IsLastLeaving}
use Rattle.pj_reach.specs.Searches.{state}
use Rattle.pj_reach.proofs.Linking.{link_read}
use Rattle.pj_reach.proofs.Traversing.{link_falls}
use Rattle.pj_reach.proofs.Searching.{Following, following_step, following_end}
use Rattle.pj_reach.proofs.joining.Search.follow.Goals as goal

pub loop-next-smaller : goal.loop-next-smaller
loop-next-smaller c =
    let so_far : Following c.args.edges.now c.args.inner.now c.args.start c.args.at (state c.args.self.now) (state c.loop-next.self) (Some c.in-Some.edge) =
    subst (λ (o : Option ℕ). Following c.args.edges.now c.args.inner.now c.args.start c.args.at (state c.args.self.now) (state c.loop-next.self) o) c.in-Some.is c.loop-next.invariant in
    let link : IsLastLeaving c.args.edges.now (source c.args.edges.now c.in-Some.edge) c.in-Some.edge c.index-next-in-Some.result.now =
    link_read (length c.args.links.now.last.items) c.args.edges.now c.args.links.now.last.items c.args.links.now.earlier.items c.in-Some.edge c.index-next-in-Some.result.now c.requires.linked so_far.next_is.0 c.index-next-in-Some.ensures in
    subst (λ (o : Option ℕ). edges_up_to c.index-next-in-Some.result.now < edges_up_to o) (sym c.in-Some.is) (link_falls c.args.edges.now (source c.args.edges.now c.in-Some.edge) c.in-Some.edge c.index-next-in-Some.result.now link)

pub loop-next-preserved : goal.loop-next-preserved
loop-next-preserved c =
    let so_far : Following c.args.edges.now c.args.inner.now c.args.start c.args.at (state c.args.self.now) (state c.loop-next.self) (Some c.in-Some.edge) =
    subst (λ (o : Option ℕ). Following c.args.edges.now c.args.inner.now c.args.start c.args.at (state c.args.self.now) (state c.loop-next.self) o) c.in-Some.is c.loop-next.invariant in
    let link : IsLastLeaving c.args.edges.now (source c.args.edges.now c.in-Some.edge) c.in-Some.edge c.index-next-in-Some.result.now =
    link_read (length c.args.links.now.last.items) c.args.edges.now c.args.links.now.last.items c.args.links.now.earlier.items c.in-Some.edge c.index-next-in-Some.result.now c.requires.linked so_far.next_is.0 c.index-next-in-Some.ensures in
    following_step c.args.edges.now c.args.inner.now c.args.start c.args.at (state c.args.self.now) (state c.loop-next.self) (state c.reach.new.self) c.in-Some.edge c.index-next-in-Some.result.now so_far link c.in_ok-reach.ensures.search c.in_ok-reach.ensures.goes_on c.in_ok-reach.ensures.reached

pub returns-clause-followed : goal.returns-clause-followed
returns-clause-followed c =
    let none_left : c.loop-next.next ≡ None = search rules in
    following_end c.args.edges.now c.args.inner.now c.args.start c.args.at (state c.args.self.now) (state c.loop-next.self)
    (subst (λ (o : Option ℕ). Following c.args.edges.now c.args.inner.now c.args.start c.args.at (state c.args.self.now) (state c.loop-next.self) o) none_left c.loop-next.invariant)
