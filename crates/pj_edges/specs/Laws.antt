-- The laws of rows. Each is the contract of a function in the module `laws`.
use Rattle.std.specs.Prelude.{◌≡◌, ℕ, true, List, ◌↔◌, ◌⊎◌, Contains}
use Rattle.pj_change.specs.declared.row.EdgeRow.{EdgeRow}
use Rattle.pj_change.specs.declared.graph.Edge.{Edge}
use Rattle.pj_change.specs.declared.change.Record.{Record}
use Rattle.pj_change.specs.Positions.{own_point}
use Rattle.pj_change.specs.Lawful.{IsLawfulSet}
use Rattle.pj_change.specs.RealEdges.{IsEdge}
use Rattle.pj_change.specs.EdgeRows.{inner_row, row_of, row_status}
use Rattle.pj_edges.specs.Orders.{same_row}
use Rattle.pj_edges.specs.Rows.{Rows, has_row}
use Rattle.pj_edges.specs.OwnRows.{rows_of, row_before, IsRowOf, IsRowWithin, AreRowsOf}

-- the rows that a change gives by itself are those that its hunks say
abbrev pub OwnRowIsListed : Type 0
OwnRowIsListed = (r : Record) (row : EdgeRow) → Contains (rows_of r) row ↔ IsRowOf r row

-- the row before a point of a change is the one that leads to it within a block
abbrev pub InnerRowIsBefore : Type 0
InnerRowIsBefore = (r : Record) (at : ℕ) → inner_row r at ≡ row_before (own_point r at)

-- rows that the order does not tell apart are equal
abbrev pub SameRowIsEqual : Type 0
SameRowIsEqual = (q r : EdgeRow) → (same_row q r ≡ true) ↔ (q ≡ r)

-- a row is in the table of a set exactly where a change of the set gives it by itself, or it leads to a point inside a block where the set cuts
abbrev pub RowOfTableIsGiven : Type 0
RowOfTableIsGiven =
    (S : List Record) (e : Rows) → AreRowsOf S e → (row : EdgeRow) →
    (has_row e row ≡ true) ↔ (((r : Record) × Contains S r × Contains (rows_of r) row) ⊎ IsRowWithin S row)

-- in the table of a lawful set an edge is a real edge of the set exactly where its row is there and its status is the one of the rule
abbrev pub EdgeOfTable : Type 0
EdgeOfTable =
    (S : List Record) → IsLawfulSet S → (e : Rows) → AreRowsOf S e → (edge : Edge) →
    IsEdge S edge ↔ ((has_row e (row_of edge) ≡ true) × (edge.status ≡ row_status S (row_of edge)))
