use Rattle.pj_change.specs.EdgeRows.{row_status}
use Rattle.pj_output.proofs.EdgeLists.{row_edge}
use Rattle.pj_output.proofs.edges.add_edge.Goals as goal

pub returns-in_default : goal.returns-in_default
returns-in_default c =
    let S = c.args.tables.now in
    absurd (c.in_default.ensures (row_status S c.args.row) (row_edge S c.list-list.ensures.lawful c.args.row c.requires))
