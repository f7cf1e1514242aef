-- The pairs of numbers are those that edges and pseudo rows join.
use Rattle.std.proofs.Common.{◌≡◌, ◌∙◌, ℕ, List, [], length, refl, sym, ap, subst, inl, inr}
use Rattle.std.specs.Prelude.{Contains, Some, slice_get}
use Rattle.std.proofs.lemmas.Option.{slice_get_within}
use Rattle.pj_change.specs.declared.point.Point.{Point}
use Rattle.pj_change.specs.declared.graph.Vertex.{Vertex}
use Rattle.pj_change.specs.declared.change.Record.{Record}
use Rattle.pj_change.specs.Before.{IsLiveText}
use Rattle.pj_change.specs.Gathers.{Gathers, IsOfNumber}
use Rattle.pj_change.specs.Lawful.{IsLawful}
use Rattle.pj_change.specs.PseudoRows.{HasEdgeOrRow}
use Rattle.pj_change.specs.Vertices.{first_point, last_point}
use Rattle.pj_change.proofs.Gathering.{gathered, gathers_alike}
use Rattle.pj_change.proofs.LawfulLists.{set_of}
use Rattle.pj_change.proofs.ListNumbers.{numbered_member, one_at}
use Rattle.pj_rows.specs.declared.values.Here.{Here}
use Rattle.pj_dead.specs.declared.row.PseudoRow.{PseudoRow}
use Rattle.pj_dead.specs.PointGraphs.{IsVertex}
use Rattle.pj_dead.specs.Pseudo.{AreRowsOf}
use Rattle.pj_dead.specs.ViewOf.{IsShown, IsViewOf}
use Rattle.pj_dead.proofs.SetRows.{rows_are}
use Rattle.pj_view.specs.SetGraph.{graph_of}
use Rattle.pj_view.specs.ShownGraph.{graph_whole, graph_is_view}
use Rattle.pj_print.specs.JoinedPairs.{AreJoinedAt, ArePairsOf}
use Rattle.pj_output.specs.Pairs.{IsPairOf, IsPairFrom}
use Rattle.pj_output.specs.Targets.{LeadsTo}

-- live text is a vertex of the view
pub shown : (S : List Record) (v : Vertex) → IsLiveText S v → IsShown S v
shown S v h = record { vertex = h.vertex; kind = inl h.text }

pub shown_vertex : (S : List Record) → IsLawful S → (v : Vertex) → IsLiveText S v → IsVertex (graph_of S) (first_point v)
shown_vertex S lawful v h = (graph_is_view S lawful).all v (shown S v h)

module _ (S : List Record) (lawful : IsLawful S) (rows : List (PseudoRow × Here)) (of : AreRowsOf (graph_of S) rows) where
  view : IsViewOf S (graph_of S)
  view = graph_is_view S lawful

  abbrev row : Vertex → Vertex → Point → PseudoRow
  row u v least = record { source = last_point u; target = first_point v; least = least }

  -- what leads to the first point of a live vertex joins it
  leads_joins : (u v : Vertex) → IsLiveText S u → IsLiveText S v → LeadsTo S rows u (first_point v) → HasEdgeOrRow S u v
  leads_joins u v a b (inl m) = inl ((view.edges u v (shown S u a) (shown S v b)).0 m)
  leads_joins u v a b (inr l) =
      inr (l.least, (rows_are S (graph_of S) (set_of S lawful) (graph_whole S) view (row u v l.least)).0 ((of (row u v l.least)).0 l.there))

  joins_leads : (u v : Vertex) → IsLiveText S u → IsLiveText S v → HasEdgeOrRow S u v → LeadsTo S rows u (first_point v)
  joins_leads u v a b (inl l) = inl ((view.edges u v (shown S u a) (shown S v b)).1 l)
  joins_leads u v a b (inr r) = inr (record {
    least = r.0;
    there = (of (row u v r.0)).1 ((rows_are S (graph_of S) (set_of S lawful) (graph_whole S) view (row u v r.0)).1 r.1);
  })

  module _ (live : List Vertex) (text : (v : Vertex) → Contains live v → IsLiveText S v) where
    pair_joined : (i j : ℕ) → IsOfNumber (IsPairFrom S rows live) (length live) (i, j) → AreJoinedAt (HasEdgeOrRow S) live i j
    pair_joined i j h =
        let from = h.is in
        let to = from.leads.is in
        let same_i : i ≡ h.number = ap (λ (p : ℕ × ℕ). p.0) to.is in
        let same_j : j ≡ to.to = ap (λ (p : ℕ × ℕ). p.1) to.is in
        let leads : LeadsTo S rows from.u (first_point to.begins.v) = subst (LeadsTo S rows from.u) (sym to.begins.first_is) from.leads.holds in
        record {
          u = from.u;
          v = to.begins.v;
          u_at = ap (slice_get live) same_i ∙ from.there;
          v_at = ap (slice_get live) same_j ∙ to.begins.there;
          joined = leads_joins from.u to.begins.v (text from.u (numbered_member live h.number from.u from.there)) (text to.begins.v (numbered_member live to.to to.begins.v to.begins.there)) leads;
        }

    joined_pair : (i j : ℕ) → AreJoinedAt (HasEdgeOrRow S) live i j → IsOfNumber (IsPairFrom S rows live) (length live) (i, j)
    joined_pair i j h = record {
      number = i;
      low = slice_get_within live i h.u h.u_at;
      is = record {
        u = h.u;
        there = h.u_at;
        leads = record {
          target = first_point h.v;
          holds = joins_leads h.u h.v (text h.u (numbered_member live i h.u h.u_at)) (text h.v (numbered_member live j h.v h.v_at)) h.joined;
          is = record { to = j; begins = record { v = h.v; there = h.v_at; first_is = refl }; is = refl };
        };
      };
    }

    pub pairs_told : (pairs : List (ℕ × ℕ)) → Gathers (IsOfNumber (IsPairFrom S rows live) (length live)) [] pairs → ArePairsOf (HasEdgeOrRow S) live pairs
    pairs_told pairs a i j = (
      λ m. pair_joined i j (gathered (IsOfNumber (IsPairFrom S rows live) (length live)) pairs a (i, j) m),
      λ h. a.all (i, j) (joined_pair i j h),
    )

-- what the vertex with a number gives
pub from_added : (S : List Record) (rows : List (PseudoRow × Here)) (live : List Vertex) (from : ℕ) (u : Vertex) → slice_get live from ≡ Some u → (old new : List (ℕ × ℕ)) →
    Gathers (IsPairOf (LeadsTo S rows u) live from) old new → Gathers (IsPairFrom S rows live from) old new
from_added S rows live from u there old new a =
    gathers_alike (IsPairOf (LeadsTo S rows u) live from) (IsPairFrom S rows live from) old new
    (λ x h. record { u = u; there = there; leads = h })
    (λ x h. subst (λ v. IsPairOf (LeadsTo S rows v) live from x) (one_at live from h.u u h.there there) h.leads) a
