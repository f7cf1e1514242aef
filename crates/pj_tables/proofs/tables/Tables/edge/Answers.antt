use Rattle.std.proofs.Common.{rules, ◌≡◌, ◌∙◌, sym, subst, refl, true, false}
use Rattle.pj_change.specs.declared.graph.Edge.{Edge}
use Rattle.pj_change.specs.EdgeRows.{row_of, with_status}
use Rattle.pj_change.specs.RealEdges.{IsEdge}
use Rattle.pj_edges.specs.Rows.{has_row}
use Rattle.pj_tables.proofs.EdgeLookups.{edge_there, row_there}
use Rattle.pj_tables.proofs.tables.Tables.edge.Goals as goal

pub returns-then-not-has : goal.returns-then-not-has
returns-then-not-has c = λ status i. (
    let none : c.has.result ≡ false = search rules in
    let there : has_row c.edges.result.now c.args.edge ≡ true =
    row_there c.args.self.now c.list-list.ensures.lawful c.edges.result.now c.edges.ensures (with_status c.args.edge status) i in
    let both : true ≡ false = sym there ∙ sym c.has.ensures ∙ none in
    cc)

pub returns : goal.returns
returns c =
    let yes : c.has.result ≡ true = search rules in
    let there : has_row c.edges.result.now c.args.edge ≡ true = sym c.has.ensures ∙ yes in
    subst (λ (e : Edge). IsEdge c.args.self.now e × (row_of e ≡ c.args.edge)) (sym c.with_status.ensures)
    (edge_there c.args.self.now c.list-list.ensures.lawful c.edges.result.now c.edges.ensures c.args.edge there, refl)
