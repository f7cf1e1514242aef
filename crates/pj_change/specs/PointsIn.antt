-- The points of a set S, and the vertices in which they lie.
use Rattle.std.specs.Prelude.{◌≡◌, ◌<◌, ◌≤◌, List, Some, Contains}
use Rattle.pj_change.specs.declared.point.Point.{Point}
use Rattle.pj_change.specs.declared.kind.Kind.{Kind}
use Rattle.pj_change.specs.declared.graph.Vertex.{Vertex}
use Rattle.pj_change.specs.declared.change.Record.{Record}
use Rattle.pj_change.specs.Positions.{kind_at}

-- a change of S has a byte, a name or an inode at the point
pub record IsPointOf (S : List Record) (p : Point) : Type 0 where
  pub owner : Record
  pub member : Contains S owner
  pub name : owner.name ≡ p.change
  pub kind : Kind
  pub there : kind_at owner.change.hunks p.offset ≡ Some kind

-- the point lies in the vertex
pub record LiesIn (p : Point) (v : Vertex) : Type 0 where
  pub change : v.change ≡ p.change
  pub low : v.start ≤ p.offset
  pub high : p.offset < v.end
