-- The graph of a set S: its vertices and its real edges, each in order.
use Rattle.std.specs.Prelude.{ℕ, List, Contains}
use Rattle.std.specs.declared.cmp.Ordering.{Ordering}
use Rattle.std.specs.declared.cmp.Ordering.TheVariants.{Less, Equal, Greater}
use Rattle.std.specs.Ordering.{nat_cmp, on, then_cmp}
use Rattle.std.specs.List.Sorted.{IsStrictlySortedBy}
use Rattle.pj_name.specs.Name.{name_cmp}
use Rattle.pj_change.specs.declared.point.Point.{Point}
use Rattle.pj_change.specs.declared.point.Place.{Place}
use Rattle.pj_change.specs.declared.point.Place.TheVariants as placed
use Rattle.pj_change.specs.declared.graph.Label.{Label}
use Rattle.pj_change.specs.declared.graph.Label.TheVariants as label
use Rattle.pj_change.specs.declared.graph.Vertex.{Vertex}
use Rattle.pj_change.specs.declared.graph.Edge.{Edge}
use Rattle.pj_change.specs.declared.graph.Graph.{Graph}
use Rattle.pj_change.specs.declared.change.Record.{Record}
use Rattle.pj_change.specs.Vertices.{IsVertex, first_point}
use Rattle.pj_change.specs.RealEdges.{IsEdge}

-- ---- orders

-- by change, then by position
abbrev pub point_cmp : Point → Point → Ordering
point_cmp = then_cmp (on (λ p. p.change) name_cmp) (on (λ p. p.offset) nat_cmp)

-- the root before each point
abbrev pub place_cmp : Place → Place → Ordering
place_cmp placed.Root placed.Root = Equal
place_cmp placed.Root (placed.At q) = Less
place_cmp (placed.At p) placed.Root = Greater
place_cmp (placed.At p) (placed.At q) = point_cmp p q

-- block, folder, order
abbrev pub label_rank : Label → ℕ
label_rank label.Block = 0
label_rank label.Folder = 1
label_rank label.Order = 2

-- by first point
abbrev pub vertex_cmp : Vertex → Vertex → Ordering
vertex_cmp = on first_point point_cmp

-- by source, target, label and introducer
abbrev pub edge_cmp : Edge → Edge → Ordering
edge_cmp =
    then_cmp (on (λ e. e.source) place_cmp)
    (then_cmp (on (λ e. e.target) point_cmp) (then_cmp (on (λ e. label_rank e.label) nat_cmp) (on (λ e. e.introducer) name_cmp)))

-- ---- the graph

-- the list has each thing of which P holds, and no other, in rising order
pub record Lists {X : Type 0} (cmp : X → X → Ordering) (P : X → Type 0) (list : List X) : Type 0 where
  pub sorted : IsStrictlySortedBy cmp list
  pub only : (x : X) → Contains list x → P x
  pub all : (x : X) → P x → Contains list x

-- the graph of S
pub record IsGraph (S : List Record) (g : Graph) : Type 0 where
  pub vertices : Lists vertex_cmp (IsVertex S) g.vertices
  pub edges : Lists edge_cmp (IsEdge S) g.edges
