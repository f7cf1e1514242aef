-- Where the rows of a list leave and enter its vertices, and its vertices of text.
use Rattle.std.specs.Prelude.{◌≡◌, ℕ, true, List}
use Rattle.pj_name.specs.declared.name.Name.{Name}
use Rattle.pj_change.specs.declared.point.Point.{Point}
use Rattle.pj_change.specs.declared.point.Place.TheVariants as placed
use Rattle.pj_change.specs.declared.graph.Vertex.{Vertex}
use Rattle.pj_change.specs.declared.graph.VertexKind.TheVariants as vertex_kind
use Rattle.pj_change.specs.declared.row.EdgeRow.{EdgeRow}
use Rattle.pj_change.specs.declared.change.Record.{Record}
use Rattle.pj_change.specs.Lawful.{IsLawful}
use Rattle.pj_change.specs.PointsIn.{LiesIn}
use Rattle.pj_change.specs.Status.{status_of}
use Rattle.pj_change.specs.Vertices.{first_point, last_point, IsVertex}
use Rattle.pj_cuts.specs.Counted.{Counted, at_offset}
use Rattle.pj_cuts.specs.CountedVertices.{IsVertexAt}
use Rattle.pj_cuts.specs.CutsOf.{AreCutsOf}
use Rattle.pj_edges.specs.Rows.{Rows, has_row}
use Rattle.pj_edges.specs.OwnRows.{AreRowsOf}

-- a row of a lawful list that comes out of a vertex leaves its last point
abbrev pub RowLeavesLastPoint : Type 0
RowLeavesLastPoint =
    (list : List Record) → IsLawful list → (e : Rows) → AreRowsOf list e → (row : EdgeRow) → has_row e row ≡ true →
    (v : Vertex) → IsVertex list v → (p : Point) → row.source ≡ placed.At p → LiesIn p v → p ≡ last_point v

-- and one that leads into a vertex enters its first point
abbrev pub RowEntersFirstPoint : Type 0
RowEntersFirstPoint =
    (list : List Record) → IsLawful list → (e : Rows) → AreRowsOf list e → (row : EdgeRow) → has_row e row ≡ true →
    (v : Vertex) → IsVertex list v → LiesIn row.target v → row.target ≡ first_point v

-- ---- vertices

-- the text of a list from start up to end, with its status
abbrev pub text_vertex : List Record → Name → ℕ → ℕ → Vertex
text_vertex list n start end = record { change = n; start = start; end = end; kind = vertex_kind.Text; status = status_of list (at_offset n start) }

-- what a table of cuts of a lawful list shows as the vertex of a position is one of the list
abbrev pub VertexOfTable : Type 0
VertexOfTable = (list : List Record) → IsLawful list → (c : Counted) → AreCutsOf list c → (n : Name) (at start end : ℕ) → IsVertexAt c n at start end → IsVertex list (text_vertex list n start end)

-- and it shows each vertex of text of the list at each of its positions
abbrev pub TableOfVertex : Type 0
TableOfVertex = (list : List Record) → IsLawful list → (c : Counted) → AreCutsOf list c → (v : Vertex) → IsVertex list v → v.kind ≡ vertex_kind.Text → (p : Point) → LiesIn p v → IsVertexAt c p.change p.offset v.start v.end
