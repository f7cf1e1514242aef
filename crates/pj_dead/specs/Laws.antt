-- What holds of the rows of a view.
use Rattle.std.specs.Prelude.{◌↔◌, List}
use Rattle.pj_change.specs.declared.point.Point.{Point}
use Rattle.pj_change.specs.declared.change.Record.{Record}
use Rattle.pj_change.specs.Lawful.{IsLawfulSet}
use Rattle.pj_change.specs.AcrossDead.{IsPath, IsAmong}
use Rattle.pj_change.specs.DeadSets.{HasStepOrRow}
use Rattle.pj_change.specs.PseudoRows.{IsPseudoRow}
use Rattle.pj_dead.specs.declared.row.PseudoRow.{PseudoRow}
use Rattle.pj_dead.specs.PointGraphs.{PointGraph, IsEdge, IsLive, IsWhole}
use Rattle.pj_dead.specs.DeadRows.{IsRow}
use Rattle.pj_dead.specs.ViewOf.{IsViewOf}

-- the rows of a view of a lawful set are its pseudo rows
abbrev pub RowsArePseudoRows : Type 0
RowsArePseudoRows = (S : List Record) (g : PointGraph) → IsLawfulSet S → IsWhole g → IsViewOf S g →
    (row : PseudoRow) → IsRow g row ↔ IsPseudoRow S row.least row.source row.target

-- a row leads from the one point to the other over the dead set with this least point
abbrev pub HasRowBetween : PointGraph → Point → Point → Point → Type 0
HasRowBetween g least source target = IsRow g (record { source = source; target = target; least = least })

-- an edge leads from u to v, or a row from the last point of u to the first point of v
abbrev pub HasEdgeOrRow : PointGraph → Point → Point → Type 0
HasEdgeOrRow g = HasStepOrRow (IsEdge g) (HasRowBetween g) (λ v. v) g.last

-- between live vertices, a path is one of edges and rows between live vertices
abbrev pub PathsByRows : Type 0
PathsByRows = (g : PointGraph) → IsWhole g → (u v : Point) → IsLive g u → IsLive g v →
    IsPath (IsEdge g) u v ↔ IsPath (IsAmong (IsLive g) (HasEdgeOrRow g)) u v
