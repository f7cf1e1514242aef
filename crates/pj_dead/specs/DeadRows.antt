-- The rows across the dead sets of a graph.
use Rattle.std.specs.Prelude.{◌≡◌}
use Rattle.pj_change.specs.declared.point.Point.{Point}
use Rattle.pj_change.specs.Graph.{point_cmp}
use Rattle.pj_change.specs.DeadSets.{IsDeadPath, AreConnected, IsLeastMember, IsAcrossSet, IsRowAcross}
use Rattle.pj_dead.specs.PointGraphs.{PointGraph, IsEdge, IsDead, IsLive}
use Rattle.pj_dead.specs.declared.row.PseudoRow.{PseudoRow}

-- a path over dead vertices alone
abbrev pub IsPathOverDead : PointGraph → Point → Point → Type 0
IsPathOverDead g = IsDeadPath (IsEdge g) (IsDead g)

-- both are of one dead set
abbrev pub AreOfOneSet : PointGraph → Point → Point → Type 0
AreOfOneSet g = AreConnected (IsEdge g) (IsDead g)

-- the least point of the dead set that has u
abbrev pub IsLeastOf : PointGraph → Point → Point → Type 0
IsLeastOf g = IsLeastMember (IsEdge g) (IsDead g) point_cmp

-- a dead set leads from one vertex to another
abbrev pub LeadsAcross : PointGraph → Point → Point → Point → Type 0
LeadsAcross g = IsAcrossSet (IsEdge g) (IsDead g) point_cmp

-- a row of the graph: from the last point of a live vertex to the first point of one, across the dead set with the least point
abbrev pub IsRow : PointGraph → PseudoRow → Type 0
IsRow g row = IsRowAcross (LeadsAcross g) (IsLive g) (IsLive g) (λ v. v) g.last row.least row.source row.target

-- ---- by the vertex where a row enters its set, or leaves it

-- an edge leads into u from a live vertex with this last point
pub record Enters (g : PointGraph) (u p : Point) : Type 0 where
  pub from : Point
  pub live : IsLive g from
  pub edge : IsEdge g from u
  pub last_is : g.last from ≡ p

-- a path over dead vertices leads from u, and then an edge to the live vertex q
pub record Leaves (g : PointGraph) (u q : Point) : Type 0 where
  pub end : Point
  pub path : IsPathOverDead g u end
  pub edge : IsEdge g end q
  pub live : IsLive g q

-- a path over dead vertices leads to u from one that an edge enters from a live vertex with this last point
pub record Arrives (g : PointGraph) (u p : Point) : Type 0 where
  pub entry : Point
  pub path : IsPathOverDead g entry u
  pub enters : Enters g entry p

-- an edge leads from u to the live vertex q
abbrev pub Departs : PointGraph → Point → Point → Type 0
Departs g u q = IsEdge g u q × IsLive g q

-- a row that enters its set at u
pub record IsRowAt (g : PointGraph) (u : Point) (row : PseudoRow) : Type 0 where
  pub least : IsLeastOf g u row.least
  pub enters : Enters g u row.source
  pub leaves : Leaves g u row.target

-- a row across the dead set that has s
pub record IsRowOfSet (g : PointGraph) (s : Point) (row : PseudoRow) : Type 0 where
  pub entry : Point
  pub joined : AreOfOneSet g s entry
  pub is : IsRowAt g entry row
