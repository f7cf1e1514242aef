use Rattle.std.proofs.Common.{sym, subst, Option}
use Rattle.pj_change.specs.declared.row.EdgeRow.{EdgeRow}
use Rattle.pj_change.specs.Graph.{edge_cmp}
use Rattle.pj_edges.specs.Rows.{IsOutAfter, IsNextOut, NoneOut}
use Rattle.pj_tables.specs.NextEdges.{IsEdgeOut, IsNext}
use Rattle.pj_tables.proofs.EdgeLookups.{next_out, none_out}
use Rattle.pj_tables.proofs.tables.Tables.next_out.Goals as goal

pub returns-in_err-row : goal.returns-in_err-row
returns-in_err-row c =
    let e = c.edges.result.now in
    rw c.from_residual.ensures (none_out c.args.self.now c.list-list.ensures.lawful e c.edges.ensures c.args.source c.args.after
    (subst (λ (a : Option EdgeRow). NoneOut e c.args.source (IsOutAfter a)) c.row_after.ensures c.in_err-row.ensures))

pub returns : goal.returns
returns c =
    let e = c.edges.result.now in
    subst (IsNext edge_cmp (IsEdgeOut c.args.self.now c.args.source) c.args.after) (sym c.with_status.ensures)
    (next_out c.args.self.now c.list-list.ensures.lawful e c.edges.ensures c.args.source c.args.after c.in_ok-row.row
    (subst (λ (a : Option EdgeRow). IsNextOut e c.args.source (IsOutAfter a) c.in_ok-row.row) c.row_after.ensures c.in_ok-row.ensures))
