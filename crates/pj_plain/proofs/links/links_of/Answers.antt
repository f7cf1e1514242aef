use Rattle.std.proofs.Common.{◌≡◌, length, [], arith}
use Rattle.pj_plain.specs.Links.{IsLinkOf}
use Rattle.pj_change.proofs.Gathering.{of_more, of_all}
use Rattle.pj_plain.proofs.EdgeLinks.{links_told}
use Rattle.pj_plain.proofs.links.links_of.Goals as goal

pub loop-edge-preserved : goal.loop-edge-preserved
loop-edge-preserved c =
    of_more (IsLinkOf c.args.vertices.now) c.args.edges.now c.loop-edge.edge-index c.edge-item.result c.edge-item.result c.loop-edge-test.true c.edge-item.is []
    c.loop-edge.links.items c.add_links.new.links.items c.loop-edge.invariant c.in_ok-add_links.ensures

pub returns : goal.returns
returns c =
    let all : length c.args.edges.now ≡ c.loop-edge.edge-index = omega arith in
    links_told c.args.vertices.now c.args.edges.now c.loop-edge.links.items
    (of_all (IsLinkOf c.args.vertices.now) c.args.edges.now c.loop-edge.edge-index all [] c.loop-edge.links.items c.loop-edge.invariant)
