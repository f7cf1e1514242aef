-- The pairs that a relation joins, where its paths over live text are before, are edges between the parts of the file's text.
use Rattle.std.proofs.Common.{◌≡◌, ℕ, ◌<◌, List, length, get_or, subst}
use Rattle.std.specs.Prelude.{Contains, ◌↔◌, Some, slice_get}
use Rattle.std.proofs.lemmas.Option.{slice_get_within}
use Rattle.std.proofs.lemmas.List.Elements.{Contains-get_or}
use Rattle.pj_change.specs.declared.point.Point.{Point}
use Rattle.pj_change.specs.declared.graph.Vertex.{Vertex}
use Rattle.pj_change.specs.declared.change.Record.{Record}
use Rattle.pj_change.specs.AcrossDead.{IsPath, one, more, IsAmong}
use Rattle.pj_change.specs.Before.{IsBefore}
use Rattle.pj_change.specs.FileText.{IsLiveIn, IsLiveList}
use Rattle.pj_change.specs.MarkedText.{Piece}
use Rattle.pj_change.proofs.ListNumbers.{HasNumber, number_of, numbered_member, one_at}
use Rattle.pj_reach.specs.Reach.{AreEdgesBelow, IsEdge, Reaches, edge, onward}
use Rattle.pj_print.specs.FileParts.{AreParts}
use Rattle.pj_print.specs.JoinedPairs.{AreJoinedAt, ArePairsOf, TellsBefore, ArePieces}

module _ (Joins : Vertex → Vertex → Type 0) (live : List Vertex) (pairs : List (ℕ × ℕ)) (are : ArePairsOf Joins live pairs) where
  -- the pairs are between numbers of live text
  pub pairs_below : AreEdgesBelow (length live) pairs
  pairs_below k d low = both (get_or pairs k d).0 (get_or pairs k d).1 (Contains-get_or pairs k d low)
    where
      both : (i j : ℕ) → Contains pairs (i, j) → (i < length live) × (j < length live)
      both i j m = (let h = (are i j).0 m in (slice_get_within live i h.u h.u_at, slice_get_within live j h.v h.v_at))

  joined_at : (i j : ℕ) → IsEdge pairs i j → AreJoinedAt Joins live i j
  unfolding IsEdge
  joined_at i j m = (are i j).0 m

  at_joined : (i j : ℕ) → AreJoinedAt Joins live i j → IsEdge pairs i j
  unfolding IsEdge
  at_joined i j h = (are i j).1 h

  module _ (S : List Record) (inode : Point) (live_are : IsLiveList S inode live) where
    abbrev Step : Vertex → Vertex → Type 0
    Step = IsAmong (IsLiveIn S inode) Joins

    is_live : (i : ℕ) (v : Vertex) → slice_get live i ≡ Some v → IsLiveIn S inode v
    is_live i v at = live_are.only v (numbered_member live i v at)

    step_between : (i j : ℕ) (u v : Vertex) → slice_get live i ≡ Some u → slice_get live j ≡ Some v → AreJoinedAt Joins live i j → Step u v
    step_between i j u v u_at v_at h = (
      is_live i u u_at,
      is_live j v v_at,
      subst (λ x. Joins x v) (one_at live i h.u u h.u_at u_at) (subst (Joins h.u) (one_at live j h.v v h.v_at v_at) h.joined),
    )

    reached_path : {i j : ℕ} → Reaches pairs i j → (u v : Vertex) → slice_get live i ≡ Some u → slice_get live j ≡ Some v → IsPath Step u v
    reached_path (edge {a = i} {b = j} e) u v u_at v_at = one (step_between i j u v u_at v_at (joined_at i j e))
    reached_path (onward {a = i} {b = k} e rest) u v u_at v_at =
        let h = joined_at i k e in
        more (step_between i k u h.v u_at h.v_at h) (reached_path rest h.v v h.v_at v_at)

    step_edge : (i j : ℕ) (u v : Vertex) → slice_get live i ≡ Some u → slice_get live j ≡ Some v → Step u v → IsEdge pairs i j
    step_edge i j u v u_at v_at l = at_joined i j (record { u = u; v = v; u_at = u_at; v_at = v_at; joined = l.2 })

    step_reached : (i j : ℕ) (u w : Vertex) → slice_get live i ≡ Some u → Step u w → ((k : ℕ) → slice_get live k ≡ Some w → Reaches pairs k j) → HasNumber live w → Reaches pairs i j
    step_reached i j u w u_at l rest n = onward (step_edge i n.number u w u_at n.there l) (rest n.number n.there)

    path_reached : {u v : Vertex} → IsPath Step u v → (i j : ℕ) → slice_get live i ≡ Some u → slice_get live j ≡ Some v → Reaches pairs i j
    path_reached (one {u} {v} l) i j u_at v_at = edge (step_edge i j u v u_at v_at l)
    path_reached (more {u} {v = w} l rest) i j u_at v_at = step_reached i j u w u_at l (λ k at. path_reached rest k j at v_at) (number_of live w (live_are.all w l.1))

    -- they have the paths of before
    pub joined_parts : TellsBefore Joins S inode → (piece : ℕ → Piece) → ArePieces S live piece → AreParts S inode live pairs piece
    joined_parts tells piece pieces = record { live_are = live_are; before = before_told; pieces = pieces }
      where
        before_told : (i j : ℕ) (u v : Vertex) → slice_get live i ≡ Some u → slice_get live j ≡ Some v → Reaches pairs i j ↔ IsBefore S u v
        before_told i j u v u_at v_at =
            let same = tells u v (is_live i u u_at) (is_live j v v_at) in
            (λ p. same.1 (reached_path p u v u_at v_at), λ b. path_reached (same.0 b) i j u_at v_at)
