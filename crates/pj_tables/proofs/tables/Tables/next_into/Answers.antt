use Rattle.std.proofs.Common.{sym, subst, Option}
use Rattle.pj_change.specs.declared.row.EdgeRow.{EdgeRow}
use Rattle.pj_edges.specs.Rows.{IsIntoAfter, IsNextInto, NoneInto}
use Rattle.pj_tables.specs.NextEdges.{into_cmp, IsEdgeInto, IsNext}
use Rattle.pj_tables.proofs.EdgeLookups.{next_into, none_into}
use Rattle.pj_tables.proofs.tables.Tables.next_into.Goals as goal

pub returns-in_err-row : goal.returns-in_err-row
returns-in_err-row c =
    let e = c.edges.result.now in
    rw c.from_residual.ensures (none_into c.args.self.now c.list-list.ensures.lawful e c.edges.ensures c.args.target c.args.after
    (subst (λ (a : Option EdgeRow). NoneInto e c.args.target (IsIntoAfter a)) c.row_after.ensures c.in_err-row.ensures))

pub returns : goal.returns
returns c =
    let e = c.edges.result.now in
    subst (IsNext into_cmp (IsEdgeInto c.args.self.now c.args.target) c.args.after) (sym c.with_status.ensures)
    (next_into c.args.self.now c.list-list.ensures.lawful e c.edges.ensures c.args.target c.args.after c.in_ok-row.row
    (subst (λ (a : Option EdgeRow). IsNextInto e c.args.target (IsIntoAfter a) c.in_ok-row.row) c.row_after.ensures c.in_ok-row.ensures))
