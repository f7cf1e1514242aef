-- The graph of a list of changes as a view shows it: the vertices of its text and of the inodes of its files, and the block and order edges between them.
use Rattle.std.specs.Prelude.{Bool, true, false, List, [], ◌∷◌, Option, None, Some, map, filter_map, flat_map}
use Rattle.std.specs.List.{filter, range_with_len, sum_by}
use Rattle.std.specs.Option.{option_map}
use Rattle.std.specs.BTreeSet.{insert_key}
use Rattle.std.proofs.Common.{inl, inr}
use Rattle.pj_change.specs.declared.point.Point.{Point}
use Rattle.pj_change.specs.declared.point.Place.{Place}
use Rattle.pj_change.specs.declared.point.Place.TheVariants as placed
use Rattle.pj_change.specs.declared.graph.Vertex.{Vertex}
use Rattle.pj_change.specs.declared.change.Record.{Record}
use Rattle.pj_change.specs.Graph.{point_cmp}
use Rattle.pj_change.specs.Positions.{own_point}
use Rattle.pj_change.specs.Rules.{position_count}
use Rattle.pj_change.specs.Sets.{HaveOneText}
use Rattle.pj_change.specs.Vertices.{first_point, last_point}
use Rattle.pj_change.proofs.Decided.{Known}
use Rattle.pj_change.proofs.KnownEdges.{known_leads, known_dead}
use Rattle.pj_apply.specs.Links.{AreDistinct}
use Rattle.pj_dead.specs.PointGraphs.{PointGraph}
use Rattle.pj_view.specs.Apart.{known_distinct, distinct_texts}
use Rattle.pj_view.specs.KnownShown.{HasShown, known_shown}

-- ---- points

-- the points of a change
abbrev pub points_of : Record → List Point
points_of r = map (own_point r) (range_with_len 0 (sum_by position_count r.change.hunks))

-- the points of the changes of S
abbrev pub all_points : List Record → List Point
all_points S = flat_map points_of S

-- the same points in rising order, each once
abbrev pub rising : List Point → List Point
rising [] = []
rising (p ∷ ps) = insert_key point_cmp (rising ps) p

-- ---- what is decided

-- whether it holds
abbrev pub answer : {A : Type 0} → Known A → Bool
answer (inl a) = true
answer (inr n) = false

-- the vertex that was found
abbrev pub found : {S : List Record} {p : Point} → Known (HasShown S p) → Option Vertex
found (inl h) = Some h.it
found (inr n) = None

-- ---- the graph

-- the last point of the vertex that a point is of, or the point itself where it is of none
abbrev pub last_of : Option Vertex → Point → Point
last_of None p = p
last_of (Some v) p = last_point v

-- the vertex is dead text
abbrev pub is_dead_vertex : List Record → Option Vertex → Bool
is_dead_vertex S None = false
is_dead_vertex S (Some v) = answer (known_dead S v)

-- an edge leads from one vertex to the other
abbrev pub leads : List Record → Option Vertex → Option Vertex → Bool
leads S None v = false
leads S (Some u) None = false
leads S (Some u) (Some v) = answer (known_leads S u v)

-- the vertex that has a point, if one is shown
unfoldable pub shown_at : (S : List Record) → HaveOneText S → Point → Option Vertex
shown_at S one p = found (known_shown S p one)

-- the first points of the vertices
abbrev pub firsts : (Point → Option Vertex) → List Point → List Point
firsts at points = rising (filter_map (λ p. option_map first_point (at p)) points)

-- the graph of what is shown at each of these points
abbrev pub graph_at : List Record → (Point → Option Vertex) → List Point → PointGraph
graph_at S at points = record {
  vertices = firsts at points;
  outs = λ u. filter (λ v. leads S (at u) (at v)) (firsts at points);
  ins = λ v. filter (λ u. leads S (at u) (at v)) (firsts at points);
  last = λ v. last_of (at v) v;
  dead = λ v. is_dead_vertex S (at v);
  first = λ p. option_map first_point (at p);
}

-- the graph without a vertex
abbrev pub no_graph : PointGraph
no_graph = record { vertices = []; outs = λ u. []; ins = λ v. []; last = λ v. v; dead = λ v. false; first = λ p. None }

-- the graph of S where no two changes have one name, and else one without a vertex
abbrev pub graph_by : (S : List Record) → Known (AreDistinct S) → PointGraph
graph_by S (inl d) = graph_at S (shown_at S (distinct_texts S d)) (all_points S)
graph_by S (inr n) = no_graph

-- the graph of S; where two changes have one name there is no vertex
unfoldable pub graph_of : List Record → PointGraph
graph_of S = graph_by S (known_distinct S)

-- the vertex that has a place
abbrev pub first_at : PointGraph → Place → Option Point
first_at g placed.Root = None
first_at g (placed.At p) = g.first p
