-- The rows that join live text across dead text in a set S (pseudo-edges are Pijul's; that these are the rows is this project's own).
use Rattle.std.specs.Prelude.{◌≡◌, List, ◌⊎◌}
use Rattle.pj_change.specs.declared.point.Point.{Point}
use Rattle.pj_change.specs.declared.graph.VertexKind.TheVariants as vertex_kind
use Rattle.pj_change.specs.declared.graph.Vertex.{Vertex}
use Rattle.pj_change.specs.declared.change.Record.{Record}
use Rattle.pj_change.specs.Vertices.{IsVertex, first_point, last_point}
use Rattle.pj_change.specs.Graph.{vertex_cmp}
use Rattle.pj_change.specs.DeadSets.{IsAcrossSet, IsRowAcross, HasStepOrRow}
use Rattle.pj_change.specs.Before.{Leads, IsDeadText, IsLiveText}

-- live text, or a file's inode
abbrev pub IsLive : List Record → Vertex → Type 0
IsLive S v = IsLiveText S v ⊎ (IsVertex S v × (v.kind ≡ vertex_kind.File))

-- The row from a point to a point across the connected set of dead text with this least point:
-- from the last point of live text, or a file's inode, to the first point of live text.
abbrev pub IsPseudoRow : List Record → Point → Point → Point → Type 0
IsPseudoRow S = IsRowAcross (IsAcrossSet (Leads S) (IsDeadText S) vertex_cmp) (IsLive S) (IsLiveText S) first_point last_point

-- an edge leads from u to v, or some dead text has a row from the last point of u to the first point of v
abbrev pub HasEdgeOrRow : List Record → Vertex → Vertex → Type 0
HasEdgeOrRow S = HasStepOrRow (Leads S) (IsPseudoRow S) first_point last_point
