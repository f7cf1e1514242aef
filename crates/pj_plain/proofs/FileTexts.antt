-- The edges between the places of a file's live text join what a path across dead text joins.
use Rattle.std.proofs.Common.{◌≡◌, ℕ, List, [], filter, sym, ◌∙◌, ap, subst}
use Rattle.std.specs.Prelude.{Contains, Option, Some, slice_get}
use Rattle.pj_change.specs.declared.point.Point.{Point}
use Rattle.pj_change.specs.declared.graph.Vertex.{Vertex}
use Rattle.pj_change.specs.declared.change.Record.{Record}
use Rattle.pj_change.specs.AcrossDead.{IsAcross}
use Rattle.pj_change.specs.Before.{Leads, IsDeadText}
use Rattle.pj_change.specs.FileText.{IsLiveIn, IsPiece}
use Rattle.pj_change.specs.Gathers.{Gathers, IsOfOne}
use Rattle.pj_change.specs.Graph.{vertex_cmp, Lists}
use Rattle.pj_change.specs.Vertices.{IsVertex}
use Rattle.pj_change.proofs.Gathering.{gathered}
use Rattle.pj_change.proofs.ListNumbers.{number_of, numbered_member, one_at, one_number}
use Rattle.pj_change.proofs.Orders.{vertex_total}
use Rattle.pj_print.specs.JoinedPairs.{AreJoinedAt, ArePairsOf, ArePieces}
use Rattle.pj_print.specs.Pieces.{piece_at}
use Rattle.pj_print.proofs.VertexPieces.{piece_is, piece_at_is}
use Rattle.pj_plain.specs.Links.{JoinsAcross, AreJoins, ArePlaces, IsPlaced}
use Rattle.pj_plain.specs.LiveText.{is_live_in}
use Rattle.pj_plain.proofs.LiveTexts.{live_passes, live_listed}
use Rattle.pj_plain.proofs.Places.{places_there, there_placed}

module _ (S : List Record) (inode : Point) (vs : List Vertex) (lists : Lists vertex_cmp (IsVertex S) vs) where
  abbrev live : List Vertex
  live = filter (is_live_in S inode) vs

  is_live : (i : ℕ) (v : Vertex) → slice_get live i ≡ Some v → IsLiveIn S inode v
  is_live i v at = (live_listed S vs lists inode).only v (numbered_member live i v at)

  pub pieces_told : ArePieces S live (piece_at S live)
  pieces_told i v at = subst (IsPiece S v) (sym (piece_at_is S live i v at)) (piece_is S v (is_live i v at).live.vertex)

  module _ (pairs : List (ℕ × ℕ)) (joins : AreJoins S vs pairs) (places : List (Option ℕ)) (placed : ArePlaces (is_live_in S inode) vs places)
      (edges : List (ℕ × ℕ)) (are : Gathers (IsOfOne (IsPlaced places) pairs) [] edges) where
    joined_by : (i j : ℕ) → IsOfOne (IsPlaced places) pairs (i, j) → AreJoinedAt (IsAcross (Leads S) (IsDeadText S)) live i j
    joined_by i j h =
        let at = places_there places h.one.0 h.one.1 i j h.is in
        let a = placed.is_at h.one.0 i at.0 in
        let b = placed.is_at h.one.1 j at.1 in
        let join : AreJoinedAt (JoinsAcross S) vs h.one.0 h.one.1 = (joins h.one.0 h.one.1).0 h.member in
        let at_u : join.u ≡ a.0 = one_at vs h.one.0 join.u a.0 join.u_at a.1 in
        let at_v : join.v ≡ b.0 = one_at vs h.one.1 join.v b.0 join.v_at b.1 in
        record {
          u = a.0;
          v = b.0;
          u_at = a.2;
          v_at = b.2;
          joined = subst (λ x. IsAcross (Leads S) (IsDeadText S) x b.0) at_u (subst (IsAcross (Leads S) (IsDeadText S) join.u) at_v join.joined.2);
        }

    -- live text has the place that is its number
    place_is : (a i : ℕ) (v : Vertex) → slice_get vs a ≡ Some v → slice_get live i ≡ Some v → slice_get places a ≡ Some (Some i)
    place_is a i v at live_at =
        let p = placed.has_one a v at (live_passes S inode v (is_live i v live_at)) in
        let w = placed.is_at a p.0 p.1 in
        let same : w.0 ≡ v = one_at vs a w.0 v w.1 at in
        let number : p.0 ≡ i = one_number vertex_cmp vertex_total live (live_listed S vs lists inode).sorted p.0 i v (w.2 ∙ ap Some same) live_at in
        p.1 ∙ ap (λ k. Some (Some k)) number

    not_dead : (v : Vertex) → IsLiveIn S inode v → IsDeadText S v → ⊥
    not_dead v h d = h.live.live d.dead

    joined_edge : (i j : ℕ) → AreJoinedAt (IsAcross (Leads S) (IsDeadText S)) live i j → Contains edges (i, j)
    joined_edge i j h =
        let u_live = is_live i h.u h.u_at in
        let v_live = is_live j h.v h.v_at in
        let a = number_of vs h.u (lists.all h.u u_live.live.vertex) in
        let b = number_of vs h.v (lists.all h.v v_live.live.vertex) in
        let join : AreJoinedAt (JoinsAcross S) vs a.number b.number =
        record { u = h.u; v = h.v; u_at = a.there; v_at = b.there; joined = (not_dead h.u u_live, not_dead h.v v_live, h.joined) } in
        are.all (i, j) (record {
          one = (a.number, b.number);
          member = (joins a.number b.number).1 join;
          is = there_placed places a.number b.number i j (place_is a.number i h.u a.there h.u_at) (place_is b.number j h.v b.there h.v_at);
        })

    pub edges_joined : ArePairsOf (IsAcross (Leads S) (IsDeadText S)) live edges
    edges_joined i j = (λ m. joined_by i j (gathered (IsOfOne (IsPlaced places) pairs) edges are (i, j) m), joined_edge i j)
