-- What joins the numbers of two vertices across the numbers of dead text is what joins the vertices across dead text.
use Rattle.std.proofs.Common.{◌≡◌, ℕ, Bool, true, false, List, map, refl, sym, ◌∙◌, ap, subst}
use Rattle.std.specs.Prelude.{Contains, ◌↔◌, Some, slice_get}
use Rattle.std.specs.Option.{option_map}
use Rattle.std.proofs.lemmas.Bool.{false_from_ne_true}
use Rattle.std.proofs.lemmas.Option.{slice_get-map, get_or_from_slice_get}
use Rattle.pj_change.specs.declared.graph.Status.{Status}
use Rattle.pj_change.specs.declared.graph.Status.TheVariants.{Alive, Dead, Zombie}
use Rattle.pj_change.specs.declared.graph.VertexKind.{VertexKind}
use Rattle.pj_change.specs.declared.graph.VertexKind.TheVariants as vertex_kind
use Rattle.pj_change.specs.declared.graph.Vertex.{Vertex}
use Rattle.pj_change.specs.declared.graph.Edge.{Edge}
use Rattle.pj_change.specs.declared.change.Record.{Record}
use Rattle.pj_change.specs.AcrossDead.{IsAcross, straight, over}
use Rattle.pj_change.specs.Before.{Leads, IsDeadText}
use Rattle.pj_change.specs.Graph.{vertex_cmp, edge_cmp, Lists}
use Rattle.pj_change.specs.RealEdges.{IsEdge}
use Rattle.pj_change.specs.Vertices.{IsVertex}
use Rattle.pj_reach.specs.Across.{is_inner, AreJoined}
use Rattle.pj_reach.specs.Across as number
use Rattle.pj_reach.specs.Reach as graph
use Rattle.pj_print.specs.JoinedPairs.{AreJoinedAt}
use Rattle.pj_plain.specs.Links.{is_dead_text, AreLinked, AreLinks, JoinsAcross, AreJoins}
use Rattle.pj_change.proofs.ListNumbers.{HasNumber, number_of, numbered_member, one_at}

-- ---- dead text

dead_parts : (kind : VertexKind) (status : Status) → is_dead_text kind status ≡ true → (kind ≡ vertex_kind.Text) × (status ≡ Dead)
dead_parts vertex_kind.Text Dead e = (refl, refl)
dead_parts vertex_kind.Text Alive e = absurd (cc)
dead_parts vertex_kind.Text Zombie e = absurd (cc)
dead_parts vertex_kind.Name status e = absurd (cc)
dead_parts vertex_kind.ExecName status e = absurd (cc)
dead_parts vertex_kind.File status e = absurd (cc)
dead_parts vertex_kind.Dir status e = absurd (cc)

parts_dead : (kind : VertexKind) (status : Status) → kind ≡ vertex_kind.Text → status ≡ Dead → is_dead_text kind status ≡ true
parts_dead kind status k s = ap (λ x. is_dead_text x status) k ∙ ap (λ x. is_dead_text vertex_kind.Text x) s

-- whether the vertex is dead text
abbrev pub is_dead : Vertex → Bool
is_dead v = is_dead_text v.kind v.status

-- the test tells the dead text of the set
pub told_dead : (S : List Record) (v : Vertex) → IsVertex S v → is_dead v ≡ true → IsDeadText S v
told_dead S v h e = (let parts = dead_parts v.kind v.status e in record { vertex = h; text = parts.0; dead = parts.1 })

pub dead_told : (S : List Record) (v : Vertex) → IsDeadText S v → is_dead v ≡ true
dead_told S v h = parts_dead v.kind v.status h.text h.dead

-- ---- flags by number

flag_at : {X : Type 0} (f : X → Bool) (xs : List X) (a : ℕ) (x : X) → slice_get xs a ≡ Some x → is_inner (map f xs) a ≡ f x
flag_at f xs a x e = get_or_from_slice_get (map f xs) a (f x) false (slice_get-map f xs a ∙ ap (option_map f) e)

-- ---- across

-- an edge or a path over dead text
abbrev Across : List Record → Vertex → Vertex → Type 0
Across S = IsAcross (Leads S) (IsDeadText S)

module _ (S : List Record) (vs : List Vertex) (es : List Edge) (links : List (ℕ × ℕ))
    (vertices : Lists vertex_cmp (IsVertex S) vs) (edges : Lists edge_cmp (IsEdge S) es) (linked : AreLinks vs es links) where
  link_leads : (a b : ℕ) (h : AreJoinedAt (AreLinked es) vs a b) → Leads S h.u h.v
  link_leads a b h = record {
    source = vertices.only h.u (numbered_member vs a h.u h.u_at);
    target = vertices.only h.v (numbered_member vs b h.v h.v_at);
    edge = h.joined.edge;
    real = edges.only h.joined.edge h.joined.member;
    label = h.joined.label;
    from = h.joined.from;
    to = h.joined.to;
  }

  lead_linked : (u v : Vertex) (a b : ℕ) → slice_get vs a ≡ Some u → slice_get vs b ≡ Some v → Leads S u v → graph.IsEdge links a b
  unfolding graph.IsEdge
  lead_linked u v a b u_at v_at h =
      (linked a b).1 (record { u = u; v = v; u_at = u_at; v_at = v_at; joined = record { edge = h.edge; member = edges.all h.edge h.real; label = h.label; from = h.from; to = h.to } })

  link_of : (a b : ℕ) → graph.IsEdge links a b → AreJoinedAt (AreLinked es) vs a b
  unfolding graph.IsEdge
  link_of a b m = (linked a b).0 m

  abbrev flags : List Bool
  flags = map is_dead vs

  across_vertices : {a b : ℕ} → number.IsAcross links flags a b → AreJoinedAt (Across S) vs a b
  across_vertices (number.straight {a} {b} e) = (
      let h = link_of a b e in
      record { u = h.u; v = h.v; u_at = h.u_at; v_at = h.v_at; joined = straight (link_leads a b h) })
  across_vertices (number.over {a} {b} {c} e d rest) = go (across_vertices rest)
    where
      go : AreJoinedAt (Across S) vs b c → AreJoinedAt (Across S) vs a c
      go r =
          let h = link_of a b e in
          let dead : is_dead h.v ≡ true = sym (flag_at is_dead vs b h.v h.v_at) ∙ d in
          let is = told_dead S h.v (vertices.only h.v (numbered_member vs b h.v h.v_at)) dead in
          let same : r.u ≡ h.v = one_at vs b r.u h.v r.u_at h.v_at in
          record {
            u = h.u;
            v = r.v;
            u_at = h.u_at;
            v_at = r.v_at;
            joined = over (link_leads a b h) is (subst (λ x. Across S x r.v) same r.joined);
          }

  onward : (u v : Vertex) (a b : ℕ) → slice_get vs a ≡ Some u → Leads S u v → IsDeadText S v → ((c : ℕ) → slice_get vs c ≡ Some v → number.IsAcross links flags c b) →
      HasNumber vs v → number.IsAcross links flags a b
  onward u v a b u_at l d rest n =
      number.over (lead_linked u v a n.number u_at n.there l) (flag_at is_dead vs n.number v n.there ∙ dead_told S v d) (rest n.number n.there)

  across_numbers : {u v : Vertex} → Across S u v → (a b : ℕ) → slice_get vs a ≡ Some u → slice_get vs b ≡ Some v → number.IsAcross links flags a b
  across_numbers (straight {u} {v} l) a b u_at v_at = number.straight (lead_linked u v a b u_at v_at l)
  across_numbers (over {u} {v} l d rest) a b u_at w_at =
      onward u v a b u_at l d (λ c at. across_numbers rest c b at w_at) (number_of vs v (vertices.all v d.vertex))

  unflagged : (a : ℕ) (v : Vertex) → slice_get vs a ≡ Some v → is_inner flags a ≡ false → IsDeadText S v → ⊥
  unflagged a v at off d = (let e : is_inner flags a ≡ true = flag_at is_dead vs a v at ∙ dead_told S v d in cc)

  stays_unflagged : (a : ℕ) (v : Vertex) → slice_get vs a ≡ Some v → (IsDeadText S v → ⊥) → is_inner flags a ≡ false
  stays_unflagged a v at stays =
      flag_at is_dead vs a v at ∙ false_from_ne_true (is_dead v) (λ e. stays (told_dead S v (vertices.only v (numbered_member vs a v at)) e))

  join_of : (a b : ℕ) → AreJoined links flags a b → AreJoinedAt (JoinsAcross S) vs a b
  join_of a b (off_a, off_b, j) =
      let r = across_vertices j in
      record { u = r.u; v = r.v; u_at = r.u_at; v_at = r.v_at; joined = (unflagged a r.u r.u_at off_a, unflagged b r.v r.v_at off_b, r.joined) }

  of_join : (a b : ℕ) → AreJoinedAt (JoinsAcross S) vs a b → AreJoined links flags a b
  of_join a b h = (stays_unflagged a h.u h.u_at h.joined.0, stays_unflagged b h.v h.v_at h.joined.1, across_numbers h.joined.2 a b h.u_at h.v_at)

  pub joins_told : (pairs : List (ℕ × ℕ)) → ((a b : ℕ) → Contains pairs (a, b) ↔ AreJoined links flags a b) → AreJoins S vs pairs
  joins_told pairs told a b = (λ m. join_of a b ((told a b).0 m), λ h. (told a b).1 (of_join a b h))
