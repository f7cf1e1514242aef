use Rattle.std.proofs.Common.{◌≡◌, ◌∙◌, None, length, get_or, sym, ap, arith}
use Rattle.std.proofs.lemmas.List.{get_or_read}
use Rattle.pj_reach.specs.Links.{source, target}
use Rattle.pj_reach.specs.Searches.{state, unreached}
use Rattle.pj_reach.proofs.Paths.{place_edge, ends_below}
use Rattle.pj_reach.proofs.Searching.{way_edge, not_reached, reach_inner, reach_other, inner_goes_on}
use Rattle.pj_reach.proofs.joining.Search.reach.Goals as goal

pub returns-in_ok-push-clause-search : goal.returns-in_ok-push-clause-search
returns-in_ok-push-clause-search c =
    let path = way_edge c.args.edges.now c.args.inner.now c.args.start (state c.args.self.now) c.requires.search (source c.args.edges.now c.args.edge) (target c.args.edges.now c.args.edge) c.requires.way (place_edge c.args.edges.now c.args.edge c.requires.edge_in) in
    let at_in = (ends_below (length c.args.inner.now) c.args.edges.now c.requires.graph c.args.edge c.requires.edge_in).1 in
    rw c.in_ok-push.ensures.items (reach_inner c.args.edges.now c.args.inner.now c.args.start (target c.args.edges.now c.args.edge) c.args.self.now.reached_from.items c.args.self.now.waiting.items c.args.self.now.pairs.items c.requires.search at_in path c.if-inner-at.true)

pub returns-in_ok-push-clause-goes_on : goal.returns-in_ok-push-clause-goes_on
returns-in_ok-push-clause-goes_on c =
    let at_in = (ends_below (length c.args.inner.now) c.args.edges.now c.requires.graph c.args.edge c.requires.edge_in).1 in
    let read : c.index.result.now ≡ get_or c.args.self.now.reached_from.items (target c.args.edges.now c.args.edge) None =
    get_or_read c.args.self.now.reached_from.items (target c.args.edges.now c.args.edge) c.index.result.now (omega (arith, at_in, c.requires.search.reached_len)) c.index.ensures None in
    let fresh : unreached c.args.start (get_or c.args.self.now.reached_from.items (target c.args.edges.now c.args.edge) None) ≡ 1 =
    ap (unreached c.args.start) (sym read) ∙ not_reached c.args.start c.index.result.now (sym c.eq.ensures ∙ c.if-eq.false) in
    rw c.in_ok-push.ensures.items (inner_goes_on c.args.edges.now c.args.inner.now c.args.start (target c.args.edges.now c.args.edge) c.args.self.now.reached_from.items c.args.self.now.waiting.items c.args.self.now.pairs.items c.requires.search at_in fresh)

pub returns-in_ok-push-2-clause-search : goal.returns-in_ok-push-2-clause-search
returns-in_ok-push-2-clause-search c =
    let path = way_edge c.args.edges.now c.args.inner.now c.args.start (state c.args.self.now) c.requires.search (source c.args.edges.now c.args.edge) (target c.args.edges.now c.args.edge) c.requires.way (place_edge c.args.edges.now c.args.edge c.requires.edge_in) in
    let at_in = (ends_below (length c.args.inner.now) c.args.edges.now c.requires.graph c.args.edge c.requires.edge_in).1 in
    rw c.in_ok-push-2.ensures.items (reach_other c.args.edges.now c.args.inner.now c.args.start (target c.args.edges.now c.args.edge) c.args.self.now.reached_from.items c.args.self.now.waiting.items c.args.self.now.pairs.items c.requires.search at_in path c.requires.start_apart c.if-inner-at.false)
