-- A scan over the rows of edges, in order.
use Rattle.std.specs.Prelude.{◌≡◌, List, [], ◌∷◌, ◌++◌, Option, Some, None}
use Rattle.pj_change.specs.declared.graph.Edge.{Edge}
use Rattle.pj_change.specs.declared.row.EdgeRow.{EdgeRow}
use Rattle.pj_change.specs.EdgeRows.{row_of}
use Rattle.pj_pmap.specs.Pairs.{rest_after}
use Rattle.pj_rows.specs.declared.values.Here.{Here}
use Rattle.pj_edges.specs.declared.keys.OutRow.{OutRow}
use Rattle.pj_edges.specs.Orders.{out_cmp, out_row}

-- the rows from this one on, which is there
abbrev pub rows_from : List (OutRow × Here) → Option EdgeRow → List (OutRow × Here)
rows_from pairs None = []
rows_from pairs (Some row) = (out_row row, record {}) ∷ rest_after out_cmp (out_row row) pairs

-- the list has also one more thing of which P holds, with this row
pub record HasAlso (P : Edge → Type 0) (row : EdgeRow) (old new : List Edge) : Type 0 where
  pub one : Edge
  pub is : P one
  pub rows : row_of one ≡ row
  pub added : new ≡ old ++ one ∷ []
