-- What a view shows: a graph whose vertices are named by their first points.
use Rattle.std.specs.Prelude.{◌≡◌, ◌≤◌, ◌↔◌, Bool, true, false, List, Option, Some, None, Contains}
use Rattle.std.specs.List.{find}
use Rattle.std.specs.List.Sorted.{IsStrictlySortedBy}
use Rattle.std.specs.Ordering.{is_lt}
use Rattle.pj_change.specs.declared.point.Point.{Point}
use Rattle.pj_change.specs.Graph.{point_cmp}

-- a graph whose vertices are named by their first points
pub record PointGraph : Type 0 where
  -- a list that has each vertex, and maybe more
  pub vertices : List Point
  -- where the edges from a vertex lead
  pub outs : Point → List Point
  -- where the edges to a vertex come from
  pub ins : Point → List Point
  -- the last point of a vertex
  pub last : Point → Point
  -- whether a vertex is dead
  pub dead : Point → Bool
  -- the vertex that has a point
  pub first : Point → Option Point

-- ---- what stands next

-- above a point; any is, where none is given
abbrev pub is_above : Option Point → Point → Bool
is_above None q = true
is_above (Some p) q = is_lt (point_cmp p q)

-- the first one that is
abbrev pub next_above : List Point → Option Point → Option Point
next_above points after = find (is_above after) points

-- ---- vertices and edges

-- a vertex is named by its first point
abbrev pub IsVertex : PointGraph → Point → Type 0
IsVertex g v = g.first v ≡ Some v

-- an edge leads from u to v
pub record IsEdge (g : PointGraph) (u v : Point) : Type 0 where
  pub source : IsVertex g u
  pub out : Contains (g.outs u) v

-- a dead vertex
pub record IsDead (g : PointGraph) (v : Point) : Type 0 where
  pub vertex : IsVertex g v
  pub dead : g.dead v ≡ true

-- a live vertex
pub record IsLive (g : PointGraph) (v : Point) : Type 0 where
  pub vertex : IsVertex g v
  pub live : g.dead v ≡ false

-- ---- the law

-- the point is one of those from the first to the last of a vertex
pub record IsWithin (g : PointGraph) (v p : Point) : Type 0 where
  pub change : p.change ≡ v.change
  pub low : v.offset ≤ p.offset
  pub high : p.offset ≤ (g.last v).offset

-- what holds of the graph of each view
pub record IsWhole (g : PointGraph) : Type 0 where
  -- an edge from a vertex leads to a vertex, which has it too
  pub into : (u v : Point) → IsVertex g u → Contains (g.outs u) v → IsVertex g v × Contains (g.ins v) u
  -- an edge to a vertex comes from a vertex, which has it too
  pub out : (u v : Point) → IsVertex g v → Contains (g.ins v) u → IsVertex g u × Contains (g.outs u) v
  -- where the edges from a vertex lead rises, each once
  pub outs_rise : (u : Point) → IsVertex g u → IsStrictlySortedBy point_cmp (g.outs u)
  -- where the edges to a vertex come from rises, each once
  pub ins_rise : (u : Point) → IsVertex g u → IsStrictlySortedBy point_cmp (g.ins u)
  -- each vertex is in the list
  pub few : (v : Point) → IsVertex g v → Contains g.vertices v
  -- the last point of a vertex is of the change of its first
  pub ends : (v : Point) → IsVertex g v → (g.last v).change ≡ v.change
  -- a vertex has the points from its first to its last
  pub ranges : (p v : Point) → (g.first p ≡ Some v) ↔ (IsVertex g v × IsWithin g v p)
