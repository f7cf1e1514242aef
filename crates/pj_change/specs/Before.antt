-- Which text is before which in a set S, whatever the statuses on the way
-- (a transitive relation between the lines of a file, as in Mimram and Di Giusto, A Categorical Theory of Patches).
use Rattle.std.specs.Prelude.{◌≡◌, ◌≢◌, List}
use Rattle.pj_change.specs.declared.point.Place.TheVariants as placed
use Rattle.pj_change.specs.declared.graph.VertexKind.TheVariants as vertex_kind
use Rattle.pj_change.specs.declared.graph.Status.TheVariants.{Dead}
use Rattle.pj_change.specs.declared.graph.Label.TheVariants as label
use Rattle.pj_change.specs.declared.graph.Vertex.{Vertex}
use Rattle.pj_change.specs.declared.graph.Edge.{Edge}
use Rattle.pj_change.specs.declared.change.Record.{Record}
use Rattle.pj_change.specs.Vertices.{IsVertex, first_point, last_point}
use Rattle.pj_change.specs.RealEdges.{IsEdge}
use Rattle.pj_change.specs.AcrossDead.{IsPath}

-- a block or order edge leaves u at its last point, and enters v at its first
pub record Leads (S : List Record) (u v : Vertex) : Type 0 where
  pub source : IsVertex S u
  pub target : IsVertex S v
  pub edge : Edge
  pub real : IsEdge S edge
  pub label : edge.label ≢ label.Folder
  pub from : edge.source ≡ placed.At (last_point u)
  pub to : edge.target ≡ first_point v

-- a path of one or more such edges leads from u to v
abbrev pub IsBefore : List Record → Vertex → Vertex → Type 0
IsBefore S = IsPath (Leads S)

-- text that is dead
pub record IsDeadText (S : List Record) (v : Vertex) : Type 0 where
  pub vertex : IsVertex S v
  pub text : v.kind ≡ vertex_kind.Text
  pub dead : v.status ≡ Dead

-- text that is alive or a zombie
pub record IsLiveText (S : List Record) (v : Vertex) : Type 0 where
  pub vertex : IsVertex S v
  pub text : v.kind ≡ vertex_kind.Text
  pub live : v.status ≢ Dead
