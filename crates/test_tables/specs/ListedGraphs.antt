-- A graph that is given by its vertices, in order, and its edges.
use Rattle.std.specs.Prelude.{◌≡◌, ◌≤◌, Bool, false, ◌&&◌, List, map, Option, Some, None, nat_le, AllPairs, Contains}
use Rattle.std.specs.List.{find, filter, list_any}
use Rattle.std.specs.declared.cmp.Ordering.TheVariants.{Less}
use Rattle.pj_name.specs.Name.{same_name}
use Rattle.pj_change.specs.declared.point.Point.{Point}
use Rattle.pj_change.specs.Graph.{point_cmp}
use Rattle.pj_change.specs.Positions.{same_point}
use Rattle.pj_dead.specs.PointGraphs.{PointGraph}
use Rattle.test_tables.specs.declared.dead.shape.Shape.{Shape}
use Rattle.test_tables.specs.declared.dead.shape.Arrow.{Arrow}

-- the vertex has the point
abbrev pub has : Point → Shape → Bool
has p s = same_name p.change s.first.change && nat_le s.first.offset p.offset && nat_le p.offset s.last.offset

-- the edge leads from u to v
abbrev pub joins : Point → Point → Arrow → Bool
joins u v a = same_point a.from u && same_point a.to v

-- some edge does
abbrev pub leads : List Arrow → Point → Point → Bool
leads arrows u v = list_any (joins u v) arrows

-- the vertex that has the point
abbrev pub shape_of : Point → List Shape → Option Shape
shape_of p shapes = find (has p) shapes

-- the first points of the vertices
abbrev pub firsts : List Shape → List Point
firsts shapes = map (λ s. s.first) shapes

-- the first point of a vertex, if there is one
abbrev pub first_of : Option Shape → Option Point
first_of None = None
first_of (Some s) = Some s.first

-- the last point of the vertex, or the point itself where there is none
abbrev pub last_of : Option Shape → Point → Point
last_of None v = v
last_of (Some s) v = s.last

-- there is a vertex, and it is dead
abbrev pub dead_of : Option Shape → Bool
dead_of None = false
dead_of (Some s) = s.dead

-- the graph with these vertices and edges
abbrev pub graph_of : List Shape → List Arrow → PointGraph
graph_of shapes arrows = record {
  vertices = firsts shapes;
  outs = λ u. filter (λ v. leads arrows u v) (firsts shapes);
  ins = λ v. filter (λ u. leads arrows u v) (firsts shapes);
  last = λ v. last_of (shape_of v shapes) v;
  dead = λ v. dead_of (shape_of v shapes);
  first = λ p. first_of (shape_of p shapes);
}

-- ---- order

-- a test whether the points are of one change, the first not behind the last
abbrev pub is_shape : Shape → Bool
is_shape s = same_name s.last.change s.first.change && nat_le s.first.offset s.last.offset

-- the points are of one change, the first not behind the last
abbrev pub IsShape : Shape → Type 0
IsShape s = (s.last.change ≡ s.first.change) × (s.first.offset ≤ s.last.offset)

-- the one ends before the other begins
abbrev pub IsBefore : Shape → Shape → Type 0
IsBefore s t = point_cmp s.last t.first ≡ Less

-- each is a vertex, and ends before each one behind it begins
pub record AreApart (shapes : List Shape) : Type 0 where
  pub each : (s : Shape) → Contains shapes s → IsShape s
  pub apart : AllPairs IsBefore shapes
