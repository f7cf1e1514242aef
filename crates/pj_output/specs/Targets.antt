-- Where edges and pseudo rows lead from a vertex of a set S.
use Rattle.std.specs.Prelude.{◌≢◌, ◌⊎◌, List, Option, Some, None, IsTrue, Contains, MatchOption}
use Rattle.std.specs.Ordering.{match_ordering}
use Rattle.std.specs.declared.cmp.Ordering.TheVariants.{Less}
use Rattle.pj_change.specs.declared.point.Point.{Point}
use Rattle.pj_change.specs.declared.graph.Vertex.{Vertex}
use Rattle.pj_change.specs.declared.change.Record.{Record}
use Rattle.pj_change.specs.Graph.{point_cmp}
use Rattle.pj_change.specs.Vertices.{first_point, last_point}
use Rattle.pj_rows.specs.declared.values.Here.{Here}
use Rattle.pj_dead.specs.declared.row.PseudoRow.{PseudoRow}
use Rattle.pj_dead.specs.PointGraphs.{is_above}
use Rattle.pj_dead.specs.Pseudo.{Leads}
use Rattle.pj_view.specs.SetGraph.{graph_of}

-- an edge or a pseudo row leads from the vertex to the point
abbrev pub LeadsTo : List Record → List (PseudoRow × Here) → Vertex → Point → Type 0
LeadsTo S rows u q = Contains ((graph_of S).outs (first_point u)) q ⊎ Leads rows (last_point u) q

-- ---- one after another

-- the least point above another one of which P holds
pub record IsNextOf (P : Point → Type 0) (after : Option Point) (target : Point) : Type 0 where
  pub is : P target
  pub above : IsTrue (is_above after target)
  pub first : (q : Point) → P q → IsTrue (is_above after q) → point_cmp q target ≢ Less

-- the least point above another one of which P holds, if there is one
abbrev pub IsNext : (Point → Type 0) → Option Point → Option Point → Type 0
IsNext P after found = MatchOption found ((q : Point) → P q → IsTrue (is_above after q) → ⊥) (IsNextOf P after)

-- the lesser of two points, or the one that is there
abbrev pub lesser : Option Point → Option Point → Option Point
lesser None found = found
lesser (Some p) None = Some p
lesser (Some p) (Some q) = match_ordering (point_cmp p q) (Some p) (Some p) (Some q)
