-- What the edges of a dead vertex are in another graph.
use Rattle.pj_change.specs.declared.point.Point.{Point}
use Rattle.pj_dead.specs.PointGraphs.{PointGraph, IsEdge, IsDead, IsLive}
use Rattle.pj_dead.specs.DeadRows.{Enters, Departs}

-- an edge that leads from v to w here leads there too, and to a vertex that is as dead as it is here
pub record GoesAlike (g h : PointGraph) (v w : Point) : Type 0 where
  pub dead : IsDead g w → IsEdge h v w × IsDead h w
  pub live : IsLive g w → Departs h v w

-- an edge that leads from u to v here leads there too if u is dead, and if u is live, one leads there from a live vertex with the same last point
pub record ComesAlike (g h : PointGraph) (u v : Point) : Type 0 where
  pub dead : IsDead g u → IsEdge h u v × IsDead h u
  pub live : IsLive g u → Enters h v (g.last u)
