-- The graph of a set S as a view shows it: its text and the inodes of its files.
use Rattle.std.specs.Prelude.{◌≡◌, ◌↔◌, ◌⊎◌, true, List, Contains}
use Rattle.pj_change.specs.declared.point.Point.{Point}
use Rattle.pj_change.specs.declared.graph.VertexKind.TheVariants as vertex_kind
use Rattle.pj_change.specs.declared.graph.Vertex.{Vertex}
use Rattle.pj_change.specs.declared.change.Record.{Record}
use Rattle.pj_change.specs.Vertices.{IsVertex, first_point, last_point}
use Rattle.pj_change.specs.Before.{Leads, IsDeadText}
use Rattle.pj_dead.specs.PointGraphs.{PointGraph}
use Rattle.pj_dead.specs.PointGraphs as shown

-- text of S, or the inode of a file
pub record IsShown (S : List Record) (v : Vertex) : Type 0 where
  pub vertex : IsVertex S v
  pub kind : (v.kind ≡ vertex_kind.Text) ⊎ (v.kind ≡ vertex_kind.File)

-- the graph has these vertices by their points, with the block and order edges between them, and the dead text is dead
pub record IsViewOf (S : List Record) (g : PointGraph) : Type 0 where
  pub all : (v : Vertex) → IsShown S v → shown.IsVertex g (first_point v)
  pub only : (p : Point) → shown.IsVertex g p → (v : Vertex) × IsShown S v × (first_point v ≡ p)
  pub last : (v : Vertex) → IsShown S v → g.last (first_point v) ≡ last_point v
  pub dead : (v : Vertex) → IsShown S v → (g.dead (first_point v) ≡ true) ↔ IsDeadText S v
  pub edges : (u v : Vertex) → IsShown S u → IsShown S v → Contains (g.outs (first_point u)) (first_point v) ↔ Leads S u v
