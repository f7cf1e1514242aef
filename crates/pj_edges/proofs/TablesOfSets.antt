-- The table of the rows of a set: what gives a row, and which edges it stands for.
use Rattle.std.proofs.Common.{◌≡◌, ◌∙◌, sym, true, ◌⊎◌, inl, inr, List}
use Rattle.std.specs.Prelude.{Contains, ◌↔◌}
use Rattle.pj_change.specs.declared.graph.Edge.{Edge}
use Rattle.pj_change.specs.declared.row.EdgeRow.{EdgeRow}
use Rattle.pj_change.specs.declared.change.Record.{Record}
use Rattle.pj_change.specs.Lawful.{IsLawfulSet}
use Rattle.pj_change.specs.RealEdges.{IsEdge}
use Rattle.pj_change.specs.EdgeRows.{row_of, row_status, IsEdgeRow}
use Rattle.pj_change.proofs.EdgesAndRows.{edge_by_row}
use Rattle.pj_edges.specs.Rows.{Rows, has_row}
use Rattle.pj_edges.specs.OwnRows.{rows_of, IsRowWithin, AreRowsOf}
use Rattle.pj_edges.proofs.ListedRows.{own_row_listed, inner_row_before}

-- what gives a row of S
pub given : (S : List Record) (row : EdgeRow) → IsEdgeRow S row → ((r : Record) × Contains S r × Contains (rows_of r) row) ⊎ IsRowWithin S row
given S row i = elim i.is [
  | inl own ↦ inl (i.introducer, i.member, (own_row_listed i.introducer row).1 (record { number = i.number; hunk = i.hunk; there = i.there; own = own }))
  | inr inner ↦ inr (record {
    owner = i.introducer;
    member = i.member;
    number = i.number;
    hunk = i.hunk;
    there = i.there;
    at = inner.at;
    inside = inner.inner;
    cut = inner.cut;
    is = inner.is ∙ inner_row_before i.introducer inner.at;
  })
]

pub giving : (S : List Record) (row : EdgeRow) → ((r : Record) × Contains S r × Contains (rows_of r) row) ⊎ IsRowWithin S row → IsEdgeRow S row
giving S row (inl (r, member, listed)) =
    let own = (own_row_listed r row).0 listed in
    record { introducer = r; member = member; number = own.number; hunk = own.hunk; there = own.there; is = inl own.own }
giving S row (inr w) = record {
  introducer = w.owner;
  member = w.member;
  number = w.number;
  hunk = w.hunk;
  there = w.there;
  is = inr (record { at = w.at; inner = w.inside; cut = w.cut; is = w.is ∙ sym (inner_row_before w.owner w.at) });
}

pub row_given : (S : List Record) (e : Rows) → AreRowsOf S e → (row : EdgeRow) →
    (has_row e row ≡ true) ↔ (((r : Record) × Contains S r × Contains (rows_of r) row) ⊎ IsRowWithin S row)
row_given S e of row = (λ h. given S row ((of row).0 h), λ g. (of row).1 (giving S row g))

pub edge_of_table : (S : List Record) → IsLawfulSet S → (e : Rows) → AreRowsOf S e → (edge : Edge) →
    IsEdge S edge ↔ ((has_row e (row_of edge) ≡ true) × (edge.status ≡ row_status S (row_of edge)))
edge_of_table S set e of edge =
    let both = edge_by_row S set edge in
    (λ i. (let k = both.0 i in ((of (row_of edge)).1 k.0, k.1)), λ k. both.1 ((of (row_of edge)).0 k.0, k.1))
