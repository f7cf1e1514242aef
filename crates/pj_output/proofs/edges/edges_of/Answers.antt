use Rattle.std.proofs.Common.{List, Some, None, sym, subst}
use Rattle.pj_change.specs.declared.graph.Edge.{Edge}
use Rattle.pj_output.proofs.EdgeLists.{AreScanned, scan_starts, scanned_row, scan_goes, scan_less, scan_ends}
use Rattle.pj_output.proofs.edges.edges_of.Goals as goal

pub loop-next-init : goal.loop-next-init
loop-next-init c =
    subst (λ (l : List Edge). AreScanned c.args.tables.now c.edges-rows.result.now.out l c.first_row-next.result) (sym c.new-edges.ensures.items)
    (scan_starts c.args.tables.now c.list-list.ensures.lawful c.edges-rows.result.now c.edges-rows.ensures c.by_source-rising.ensures.rising c.first_row-next.result c.first_row-next.ensures)

pub add_edge-requires : goal.add_edge-requires
add_edge-requires c =
    let a : AreScanned c.args.tables.now c.edges-rows.result.now.out c.loop-next.edges.items (Some c.in-Some.row) = rw c.in-Some.is at c.loop-next.invariant in
    scanned_row c.args.tables.now c.list-list.ensures.lawful c.edges-rows.result.now c.edges-rows.ensures c.by_source-rising.ensures.rising c.loop-next.edges.items c.in-Some.row a

pub loop-next-smaller : goal.loop-next-smaller
loop-next-smaller c =
    rw c.in-Some.is (scan_less c.args.tables.now c.list-list.ensures.lawful c.edges-rows.result.now c.edges-rows.ensures c.by_source-rising.ensures.rising c.in-Some.row c.row_after-next.result c.row_after-next.ensures)

pub loop-next-preserved : goal.loop-next-preserved
loop-next-preserved c =
    let a : AreScanned c.args.tables.now c.edges-rows.result.now.out c.loop-next.edges.items (Some c.in-Some.row) = rw c.in-Some.is at c.loop-next.invariant in
    scan_goes c.args.tables.now c.list-list.ensures.lawful c.edges-rows.result.now c.edges-rows.ensures c.by_source-rising.ensures.rising
    c.loop-next.edges.items c.add_edge.new.edges.items c.in-Some.row c.row_after-next.result a c.in_ok-add_edge.ensures c.row_after-next.ensures

pub returns : goal.returns
returns c =
    let a : AreScanned c.args.tables.now c.edges-rows.result.now.out c.loop-next.edges.items None = rw c.in_default.is at c.loop-next.invariant in
    scan_ends c.args.tables.now c.list-list.ensures.lawful c.edges-rows.result.now c.edges-rows.ensures c.by_source-rising.ensures.rising c.loop-next.edges.items a
