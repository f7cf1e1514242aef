-- Vertices and edges by number.
use Rattle.std.specs.Prelude.{◌≡◌, ◌≢◌, ℕ, Bool, true, false, List, length, Option, Some, None, Contains, IsTrue, filter, slice_get, slice_index_or}
use Rattle.pj_change.specs.declared.point.Place.TheVariants as placed
use Rattle.pj_change.specs.declared.point.Point.{Point}
use Rattle.pj_change.specs.declared.graph.Label.TheVariants as label
use Rattle.pj_change.specs.declared.graph.Edge.{Edge}
use Rattle.pj_change.specs.declared.graph.Vertex.{Vertex}
use Rattle.pj_change.specs.declared.change.Record.{Record}
use Rattle.pj_change.specs.declared.graph.Status.{Status}
use Rattle.pj_change.specs.declared.graph.Status.TheVariants.{Dead}
use Rattle.pj_change.specs.declared.graph.VertexKind.{VertexKind}
use Rattle.pj_change.specs.declared.graph.VertexKind.TheVariants as vertex_kind
use Rattle.pj_change.specs.AcrossDead.{IsAcross}
use Rattle.pj_change.specs.Before.{Leads, IsDeadText}
use Rattle.pj_change.specs.Vertices.{first_point, last_point}
use Rattle.pj_change.specs.Gathers.{IsOfNumber}
use Rattle.pj_print.specs.JoinedPairs.{ArePairsOf}

-- ---- edges

-- a block or order edge of the list leads from the one vertex to the other
pub record AreLinked (edges : List Edge) (u v : Vertex) : Type 0 where
  pub edge : Edge
  pub member : Contains edges edge
  pub label : edge.label ≢ label.Folder
  pub from : edge.source ≡ placed.At (last_point u)
  pub to : edge.target ≡ first_point v

-- the pairs of numbers are those of the vertices that are so linked
abbrev pub AreLinks : List Vertex → List Edge → List (ℕ × ℕ) → Type 0
AreLinks vertices edges = ArePairsOf (AreLinked edges) vertices

-- the pair leads from the number to that of the vertex with the number to, which has this first point
pub record IsTargetAt (vertices : List Vertex) (from : ℕ) (target : Point) (to : ℕ) (pair : ℕ × ℕ) : Type 0 where
  pub v : Vertex
  pub there : slice_get vertices to ≡ Some v
  pub first : first_point v ≡ target
  pub is : pair ≡ (from, to)

-- the pair is a link of the edge from the vertex with the number from
pub record IsLinkFrom (vertices : List Vertex) (edge : Edge) (from : ℕ) (pair : ℕ × ℕ) : Type 0 where
  pub u : Vertex
  pub there : slice_get vertices from ≡ Some u
  pub last : edge.source ≡ placed.At (last_point u)
  pub leads : IsOfNumber (IsTargetAt vertices from edge.target) (length vertices) pair

-- the pair is a link of the edge
pub record IsLinkOf (vertices : List Vertex) (edge : Edge) (pair : ℕ × ℕ) : Type 0 where
  pub label : edge.label ≢ label.Folder
  pub leads : IsOfNumber (IsLinkFrom vertices edge) (length vertices) pair

-- ---- what dead text joins

-- a vertex of this kind and status is dead text
abbrev pub is_dead_text : VertexKind → Status → Bool
is_dead_text vertex_kind.Text Dead = true
is_dead_text kind status = false

-- neither of two vertices of S is dead text, and an edge of S, or a path over dead text, leads from the one to the other
abbrev pub JoinsAcross : List Record → Vertex → Vertex → Type 0
JoinsAcross S u v = (IsDeadText S u → ⊥) × (IsDeadText S v → ⊥) × IsAcross (Leads S) (IsDeadText S) u v

-- the pairs of numbers are those of the vertices that are so joined
abbrev pub AreJoins : List Record → List Vertex → List (ℕ × ℕ) → Type 0
AreJoins S = ArePairsOf (JoinsAcross S)

-- ---- places among some of the vertices

-- the vertices that pass the test have their numbers among these as places, and the others have none
pub record ArePlaces (test : Vertex → Bool) (vertices : List Vertex) (places : List (Option ℕ)) : Type 0 where
  pub size : length places ≡ length vertices
  pub is_at : (a i : ℕ) → slice_get places a ≡ Some (Some i) → (v : Vertex) × (slice_get vertices a ≡ Some v) × (slice_get (filter test vertices) i ≡ Some v)
  pub has_one : (a : ℕ) (v : Vertex) → slice_get vertices a ≡ Some v → IsTrue (test v) → (i : ℕ) × (slice_get places a ≡ Some (Some i))

-- the pair of two numbers, if both are there
abbrev pub both : Option ℕ → Option ℕ → Option (ℕ × ℕ)
both (Some i) (Some j) = Some (i, j)
both o p = None

-- the places of the two numbers, if both have one
abbrev pub placed_pair : List (Option ℕ) → ℕ → ℕ → Option (ℕ × ℕ)
placed_pair places a b = both (slice_index_or places a None) (slice_index_or places b None)

-- the pair is the places of the numbers of the other
abbrev pub IsPlaced : List (Option ℕ) → ℕ × ℕ → ℕ × ℕ → Type 0
IsPlaced places numbers pair = placed_pair places numbers.0 numbers.1 ≡ Some pair
