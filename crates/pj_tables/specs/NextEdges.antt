-- The real edges of a set S out of a place and into a point, one after another.
use Rattle.std.specs.Prelude.{◌≡◌, false, List, Option, Some, None}
use Rattle.std.specs.Ordering.{nat_cmp, on, then_cmp, is_lt}
use Rattle.std.specs.declared.cmp.Ordering.{Ordering}
use Rattle.std.specs.declared.cmp.Ordering.TheVariants.{Less}
use Rattle.pj_name.specs.Name.{name_cmp}
use Rattle.pj_change.specs.declared.point.Point.{Point}
use Rattle.pj_change.specs.declared.point.Place.{Place}
use Rattle.pj_change.specs.declared.graph.Edge.{Edge}
use Rattle.pj_change.specs.declared.change.Record.{Record}
use Rattle.pj_change.specs.Graph.{point_cmp, place_cmp, label_rank}
use Rattle.pj_change.specs.RealEdges.{IsEdge}

-- ---- edges of a place and of a point

-- an edge of S out of the place
pub record IsEdgeOut (S : List Record) (source : Place) (e : Edge) : Type 0 where
  pub edge : IsEdge S e
  pub from : e.source ≡ source

-- an edge of S into the point
pub record IsEdgeInto (S : List Record) (target : Point) (e : Edge) : Type 0 where
  pub edge : IsEdge S e
  pub to : e.target ≡ target

-- the edge, if there is one, comes out of the place
abbrev pub ComesOut : Place → Option Edge → Type 0
ComesOut source None = Unit {0}
ComesOut source (Some e) = e.source ≡ source

-- the edge, if there is one, leads into the point
abbrev pub LeadsInto : Point → Option Edge → Type 0
LeadsInto target None = Unit {0}
LeadsInto target (Some e) = e.target ≡ target

-- ---- one after another

-- by target, source, label and introducer
abbrev pub into_cmp : Edge → Edge → Ordering
into_cmp =
    then_cmp (on (λ e. e.target) point_cmp)
    (then_cmp (on (λ e. e.source) place_cmp) (then_cmp (on (λ e. label_rank e.label) nat_cmp) (on (λ e. e.introducer) name_cmp)))

-- an edge comes after the other in an order, as all do where there is no other
abbrev pub IsAfter : (Edge → Edge → Ordering) → Option Edge → Edge → Type 0
IsAfter cmp None e = Unit {0}
IsAfter cmp (Some d) e = cmp d e ≡ Less

-- the first in an order of those edges after the other of which P holds
pub record IsNext (cmp : Edge → Edge → Ordering) (P : Edge → Type 0) (after : Option Edge) (e : Edge) : Type 0 where
  pub is : P e
  pub later : IsAfter cmp after e
  pub first : (f : Edge) → P f → IsAfter cmp after f → is_lt (cmp f e) ≡ false

-- P holds of no edge after the other
abbrev pub NoneAfter : (Edge → Edge → Ordering) → (Edge → Type 0) → Option Edge → Type 0
NoneAfter cmp P after = (e : Edge) → P e → IsAfter cmp after e → ⊥
