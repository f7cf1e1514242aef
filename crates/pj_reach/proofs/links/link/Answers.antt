use Rattle.std.proofs.Common.{◌≡◌, ◌<◌, None, get_or, arith}
use Rattle.std.proofs.lemmas.List.{get_or_read}
use Rattle.pj_reach.specs.Links.{source}
use Rattle.pj_reach.proofs.Linking.{one_more_link}
use Rattle.pj_reach.proofs.Paths.{ends_below}
use Rattle.pj_reach.proofs.links.link.Goals as goal

pub loop-index-preserved : goal.loop-index-preserved
loop-index-preserved c =
    let s_in : source c.args.edges.now c.loop-index.index < c.args.size = (ends_below c.args.size c.args.edges.now c.requires c.loop-index.index c.loop-index-test.true).0 in
    let read : c.index.result.now ≡ get_or c.loop-index.last.items (source c.args.edges.now c.loop-index.index) None =
    get_or_read c.loop-index.last.items (source c.args.edges.now c.loop-index.index) c.index.result.now (omega (arith, s_in, c.loop-index.invariant.last_len)) c.index.ensures None in
    rw (c.in_ok-push.ensures.items, read) (one_more_link c.args.size c.args.edges.now c.loop-index.index c.loop-index.last.items c.loop-index.earlier.items c.loop-index.invariant s_in)
