-- The neighbours from which edges lead to a vertex, found by the rows into it.
use Rattle.std.proofs.Common.{◌≡◌, ◌∙◌, ◌<◌, sym, ap, subst, refl, List, [], ◌∷◌, ◌++◌, Option, Some, None, MatchOption, inl, inr, length}
use Rattle.std.proofs.lemmas.Option.{same_Some}
use Rattle.pj_change.specs.declared.point.Point.{Point}
use Rattle.pj_change.specs.declared.point.Place.{Place}
use Rattle.pj_change.specs.declared.point.Place.TheVariants as placed
use Rattle.pj_change.specs.declared.graph.Vertex.{Vertex}
use Rattle.pj_change.specs.declared.change.Record.{Record}
use Rattle.pj_change.specs.Lawful.{IsLawful}
use Rattle.pj_change.specs.Vertices.{first_point, last_point}
use Rattle.pj_change.proofs.LawfulLists.{set_of}
use Rattle.pj_change.proofs.VertexOfPoint.{lawful_one_text}
use Rattle.pj_dead.specs.PointGraphs.{PointGraph, IsWhole, next_above}
use Rattle.pj_dead.specs.PointGraphs as shown
use Rattle.pj_dead.specs.Searches.{IsWalked}
use Rattle.pj_dead.specs.ViewOf.{IsShown, IsViewOf}
use Rattle.pj_dead.proofs.Walking.{walk_starts, walk_on, walk_ends, walk_less}
use Rattle.pj_edges.specs.OwnRows.{AreRowsOf}
use Rattle.pj_edges.specs.Rows.{Rows}
use Rattle.pj_view.specs.Ends.{IsNoSource, IsNextSource}
use Rattle.pj_view.specs.SetGraph.{first_at}
use Rattle.pj_view.proofs.ViewEdges.{AreBounds, no_bound, bound, none_before, file_before, before_none, before_some, before_first}
use Rattle.pj_view.proofs.ViewPoints.{HasText, text_or_none, shown_last}

-- the source after a place, or the first of all
abbrev pub IsSourceAfter : Rows → Point → Option Place → Option Place → Type 0
IsSourceAfter e p above next = MatchOption next (IsNoSource e p above) (IsNextSource e p above)

-- these neighbours were found, and this is the next source
pub record IsFollowed (S : List Record) (g : PointGraph) (e : Rows) (p : Point) (list : List Point) (next : Option Place) : Type 0 where
  pub after : Option Point
  pub above : Option Place
  pub bounds : AreBounds S after above
  pub step : IsSourceAfter e p above next
  pub walk : IsWalked (g.ins p) list (next_above (g.ins p) after)

pub followed_starts : (S : List Record) (g : PointGraph) (e : Rows) (p : Point) (next : Option Place) → IsSourceAfter e p None next → IsFollowed S g e p [] next
followed_starts S g e p next step = record { after = None; above = None; bounds = no_bound; step = step; walk = walk_starts (g.ins p) (next_above (g.ins p) None) refl }

module _ (S : List Record) (lawful : IsLawful S) (g : PointGraph) (whole : IsWhole g) (of : IsViewOf S g) (e : Rows) (rows : AreRowsOf S e) (p : Point) (is : shown.IsVertex g p) where
  module _ (list : List Point) (source : Place) (w : IsFollowed S g e p list (Some source)) where
    -- a vertex that has the source is the next neighbour
    record IsNeighbour (from : Point) : Type 0 where
      vertex : Vertex
      is_shown : IsShown S vertex
      source_is : source ≡ placed.At (last_point vertex)
      from_is : first_point vertex ≡ from
      next : Some from ≡ next_above (g.ins p) w.after

    neighbour : (from : Point) → first_at g source ≡ Some from → IsNeighbour from
    neighbour from found = elim (text_or_none S lawful g whole of p is) [
      | inl none ↦ absurd (let c : None ≡ Some from = sym (file_before S lawful g whole of e rows p none w.step.row w.step.there w.step.to) ∙ ap (first_at g) w.step.from ∙ found in cc)
      | inr t ↦ by t
    ]
      where
        by : HasText S p → IsNeighbour from
        by t =
            let h = before_some S lawful g whole of e rows p is t.start t.end t.is w.after w.above w.bounds source w.step in
            let same : first_point h.0 ≡ from = same_Some (first_point h.0) from (sym (before_first S lawful g whole of e rows p is t.start t.end t.is w.after w.above w.bounds source w.step) ∙ found) in
            record { vertex = h.0; is_shown = h.1; source_is = h.2; from_is = same; next = ap Some (sym same) ∙ h.3 }

    pub followed_on : (from : Point) → Some from ≡ first_at g source → (next : Option Place) → IsSourceAfter e p (Some source) next → IsFollowed S g e p (list ++ from ∷ []) next
    followed_on from found next step =
        let n = neighbour from (sym found) in
        let last = shown_last S (lawful_one_text S (set_of S lawful)) n.vertex n.is_shown in
        let bounds : AreBounds S (Some (first_point n.vertex)) (Some (placed.At (last_point n.vertex))) = bound last in
        record {
          after = Some from;
          above = Some source;
          bounds = subst (λ x. AreBounds S (Some x) (Some source)) n.from_is (subst (λ x. AreBounds S (Some (first_point n.vertex)) (Some x)) (sym n.source_is) bounds);
          step = step;
          walk = walk_on (g.ins p) list from (whole.ins_rise p is) (subst (IsWalked (g.ins p) list) (sym n.next) w.walk);
        }

    pub followed_less : (from : Point) → Some from ≡ first_at g source → length list < length (g.ins p)
    followed_less from found = (let n = neighbour from (sym found) in walk_less (g.ins p) list from (subst (IsWalked (g.ins p) list) (sym n.next) w.walk))

    -- where no vertex has a source there are no neighbours
    pub followed_stops : None ≡ first_at g source → list ≡ g.ins p
    followed_stops none = elim (text_or_none S lawful g whole of p is) [
      | inl no_text ↦ walk_ends (g.ins p) list (subst (IsWalked (g.ins p) list) (sym (none_before S lawful g whole of e rows p is no_text w.after)) w.walk)
      | inr t ↦ absurd (
          let h = before_first S lawful g whole of e rows p is t.start t.end t.is w.after w.above w.bounds source w.step in
          let c : None ≡ Some (first_point (before_some S lawful g whole of e rows p is t.start t.end t.is w.after w.above w.bounds source w.step).0) = none ∙ h in
          cc)
    ]

  pub followed_ends : (list : List Point) → IsFollowed S g e p list None → list ≡ g.ins p
  followed_ends list w = walk_ends (g.ins p) list (subst (IsWalked (g.ins p) list) (sym none) w.walk)
    where
      none : None ≡ next_above (g.ins p) w.after
      none = elim (text_or_none S lawful g whole of p is) [
        | inl no_text ↦ none_before S lawful g whole of e rows p is no_text w.after
        | inr t ↦ before_none S lawful g whole of e rows p is t.start t.end t.is w.after w.above w.bounds w.step
      ]
