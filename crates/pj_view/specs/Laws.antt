-- The laws of the view of a list. Each is the contract of a function in the module `laws`.
use Rattle.std.specs.Prelude.{List, []}
use Rattle.pj_change.specs.declared.point.Point.{Point}
use Rattle.pj_change.specs.declared.change.Record.{Record}
use Rattle.pj_change.specs.Lawful.{IsLawful}
use Rattle.pj_dead.specs.PointGraphs.{IsWhole}
use Rattle.pj_dead.specs.Pseudo.{AreRowsOf}
use Rattle.pj_dead.specs.Touched.{IsKept}
use Rattle.pj_dead.specs.ViewOf.{IsViewOf}
use Rattle.pj_view.specs.SetGraph.{graph_of}
use Rattle.pj_view.specs.Touched.{HasOneMore, IsTouchPoint, IsMet}

-- the graph of any list keeps the law of views
abbrev pub GraphIsWhole : Type 0
GraphIsWhole = (S : List Record) → IsWhole (graph_of S)

-- the graph of a lawful list is a view of it
abbrev pub GraphIsView : Type 0
GraphIsView = (S : List Record) → IsLawful S → IsViewOf S (graph_of S)

-- a change more leaves each dead vertex as it is that has none of these points, of which one lies in each vertex with a touch point,
-- whichever of the two graphs it is one of: with its last point, its dead neighbours, and edges from live vertices with the same last
-- points and to the same live vertices
abbrev pub OthersAreKept : Type 0
OthersAreKept =
    (S T : List Record) (c : Record) → IsLawful S → IsLawful T → HasOneMore S T c →
    (points : List Point) → ((p : Point) → IsTouchPoint S T c p → IsMet T points p) →
    IsKept (graph_of S) (graph_of T) points × IsKept (graph_of T) (graph_of S) points

-- the graph of no change has no row
abbrev pub NoChangeHasNoRow : Type 0
NoChangeHasNoRow = AreRowsOf (graph_of []) []
