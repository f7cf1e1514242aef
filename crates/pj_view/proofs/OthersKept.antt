-- A change more keeps each dead vertex of a view that has none of its touch points.
use Rattle.std.proofs.Common.{◌≡◌, ◌∙◌, sym, ap, subst, refl, Bool, true, false, List, inl, arith}
use Rattle.std.specs.Prelude.{◌↔◌, Contains}
use Rattle.pj_change.specs.declared.point.Point.{Point}
use Rattle.pj_change.specs.declared.graph.Vertex.{Vertex}
use Rattle.pj_change.specs.declared.change.Record.{Record}
use Rattle.pj_change.specs.Before.{Leads, IsDeadText}
use Rattle.pj_change.specs.Lawful.{IsLawful}
use Rattle.pj_change.specs.PointsIn.{LiesIn}
use Rattle.pj_change.specs.Vertices.{first_point, last_point}
use Rattle.pj_change.proofs.VertexOfPoint.{vertex_of, point_of_vertex}
use Rattle.pj_dead.specs.PointGraphs.{PointGraph, IsEdge, IsDead, IsLive, IsWhole}
use Rattle.pj_dead.specs.DeadRows.{Enters, Departs}
use Rattle.pj_dead.specs.Touched.{IsTouched, IsKeptAt, IsKept}
use Rattle.pj_dead.specs.ViewOf.{IsShown, IsViewOf}
use Rattle.pj_view.specs.Laws.{OthersAreKept}
use Rattle.pj_view.specs.SetGraph.{graph_of}
use Rattle.pj_view.specs.ShownGraph.{graph_whole, graph_is_view}
use Rattle.pj_view.specs.Touched.{HasOneMore, IsTouchPoint, IsMet, is_dead}
use Rattle.pj_view.proofs.FinerVertices.{finer}
use Rattle.pj_view.proofs.KeptVertices.{IsQuiet, dead_is, point_kept, kept_there, kept_back}
use Rattle.pj_view.proofs.KeptEdges.{AreAlike, out_there, out_back, in_there, in_back}
use Rattle.pj_view.proofs.ShownEnds.{source_shown, target_shown}
use Rattle.pj_view.proofs.ViewPoints.{first_there}

-- ---- what a view shows of edges and dead text

module _ (L : List Record) (lawful : IsLawful L) (g : PointGraph) (whole : IsWhole g) (view : IsViewOf L g) where
  -- dead text is shown
  text_shown : (v : Vertex) → IsDeadText L v → IsShown L v
  text_shown v d = record { vertex = d.vertex; kind = inl d.text }

  -- an edge is shown
  edge_shown : (u v : Vertex) → Leads L u v → IsEdge g (first_point u) (first_point v)
  edge_shown u v l =
      let source = source_shown L lawful u v l in
      record { source = view.all u source; out = (view.edges u v source (target_shown L lawful u v l)).1 l }

  -- an edge that is shown out of a vertex is one of the list
  out_is : (v : Vertex) → IsShown L v → (q : Point) → IsEdge g (first_point v) q → (x : Vertex) × Leads L v x × (first_point x ≡ q)
  out_is v shown q e =
      let k = view.only q (whole.into (first_point v) q e.source e.out).0 in
      (k.0, (view.edges v k.0 shown k.1).0 (subst (Contains (g.outs (first_point v))) (sym k.2) e.out), k.2)

  -- and so is one into it
  in_is : (v : Vertex) → IsShown L v → (q : Point) → IsEdge g q (first_point v) → (x : Vertex) × Leads L x v × (first_point x ≡ q)
  in_is v shown q e =
      let k = view.only q e.source in
      (k.0, (view.edges k.0 v k.1 shown).0 (subst (λ u. Contains (g.outs u) (first_point v)) (sym k.2) e.out), k.2)

  -- dead text is shown as dead, and nothing else is
  dead_shown : (v : Vertex) → IsDeadText L v → IsDead g (first_point v)
  dead_shown v d = record { vertex = view.all v (text_shown v d); dead = (view.dead v (text_shown v d)).1 d }

  shown_dead : (v : Vertex) → IsShown L v → IsDead g (first_point v) → IsDeadText L v
  shown_dead v s d = (view.dead v s).0 d.dead

  -- what is shown as live is no dead text, and what is none is shown so
  shown_live : (v : Vertex) → IsShown L v → IsLive g (first_point v) → IsDeadText L v → ⊥
  shown_live v s l d = (let e : true ≡ false = sym ((view.dead v s).1 d) ∙ l.live in cc)

  live_shown : (v : Vertex) → IsShown L v → (IsDeadText L v → ⊥) → IsLive g (first_point v)
  live_shown v s none = record { vertex = view.all v s; live = by (g.dead (first_point v)) refl }
    where
      by : (b : Bool) → g.dead (first_point v) ≡ b → g.dead (first_point v) ≡ false
      by true e = absurd (none ((view.dead v s).0 e))
      by false e = e

-- ---- one vertex of two views

-- v has in L the neighbours that w has in M: edges lead to vertices that begin together, and come from vertices that end together; both
-- of these are dead text or none is, and dead ones begin together
record HasNeighboursOf (L M : List Record) (v w : Vertex) : Type 0 where
  outs : (x : Vertex) → Leads L v x → (y : Vertex) × Leads M w y × (first_point y ≡ first_point x) × (IsDeadText L x ↔ IsDeadText M y)
  ins : (x : Vertex) → Leads L x v → (y : Vertex) × Leads M y w × (last_point y ≡ last_point x) × (IsDeadText L x ↔ IsDeadText M y) × (IsDeadText L x → first_point y ≡ first_point x)

module _ (L M : List Record) (lawful_L : IsLawful L) (lawful_M : IsLawful M) (g h : PointGraph) (whole_g : IsWhole g) (view_g : IsViewOf L g) (whole_h : IsWhole h) (view_h : IsViewOf M h)
    (v w : Vertex) (was : IsDeadText L v) (is : IsDeadText M w) (first : first_point w ≡ first_point v) (last : last_point w ≡ last_point v) (near : HasNeighboursOf L M v w) where
  shown : IsShown L v
  shown = text_shown L lawful_L g whole_g view_g v was

  -- edges of w are shown there at the first point of v
  out_edge : (y : Vertex) (q : Point) → Leads M w y → first_point y ≡ q → IsEdge h (first_point v) q
  out_edge y q l e = subst (IsEdge h (first_point v)) e (subst (λ u. IsEdge h u (first_point y)) first (edge_shown M lawful_M h whole_h view_h w y l))

  in_edge : (y : Vertex) (q : Point) → Leads M y w → first_point y ≡ q → IsEdge h q (first_point v)
  in_edge y q l e = subst (λ u. IsEdge h u (first_point v)) e (subst (IsEdge h (first_point y)) first (edge_shown M lawful_M h whole_h view_h y w l))

  -- an edge to a dead vertex, which is dead there too
  ahead : (q : Point) → IsEdge g (first_point v) q → IsDead g q → IsEdge h (first_point v) q × IsDead h q
  ahead q e d =
      let k = out_is L lawful_L g whole_g view_g v shown q e in
      let c = near.outs k.0 k.1 in
      let dead = c.3.0 (shown_dead L lawful_L g whole_g view_g k.0 (target_shown L lawful_L v k.0 k.1) (subst (IsDead g) (sym k.2) d)) in
      (out_edge c.0 q c.1 (c.2 ∙ k.2), subst (IsDead h) (c.2 ∙ k.2) (dead_shown M lawful_M h whole_h view_h c.0 dead))

  -- an edge from one
  back : (q : Point) → IsEdge g q (first_point v) → IsDead g q → IsEdge h q (first_point v) × IsDead h q
  back q e d =
      let k = in_is L lawful_L g whole_g view_g v shown q e in
      let c = near.ins k.0 k.1 in
      let old = shown_dead L lawful_L g whole_g view_g k.0 (source_shown L lawful_L k.0 v k.1) (subst (IsDead g) (sym k.2) d) in
      let same = c.4 old ∙ k.2 in
      (in_edge c.0 q c.1 same, subst (IsDead h) same (dead_shown M lawful_M h whole_h view_h c.0 (c.3.0 old)))

  -- an edge from a live vertex, by the last point of that
  enters : (p : Point) → Enters g (first_point v) p → Enters h (first_point v) p
  enters p n =
      let k = in_is L lawful_L g whole_g view_g v shown n.from n.edge in
      let c = near.ins k.0 k.1 in
      let old = source_shown L lawful_L k.0 v k.1 in
      let new = source_shown M lawful_M c.0 w c.1 in
      record {
        from = first_point c.0;
        live = live_shown M lawful_M h whole_h view_h c.0 new (λ d. shown_live L lawful_L g whole_g view_g k.0 old (subst (IsLive g) (sym k.2) n.live) (c.3.1 d));
        edge = in_edge c.0 (first_point c.0) c.1 refl;
        last_is = view_h.last c.0 new ∙ c.2 ∙ sym (view_g.last k.0 old) ∙ ap g.last k.2 ∙ n.last_is;
      }

  -- an edge to a live vertex
  departs : (q : Point) → Departs g (first_point v) q → Departs h (first_point v) q
  departs q (e, live) =
      let k = out_is L lawful_L g whole_g view_g v shown q e in
      let c = near.outs k.0 k.1 in
      let old = target_shown L lawful_L v k.0 k.1 in
      let new = target_shown M lawful_M w c.0 c.1 in
      let there = live_shown M lawful_M h whole_h view_h c.0 new (λ d. shown_live L lawful_L g whole_g view_g k.0 old (subst (IsLive g) (sym k.2) live) (c.3.1 d)) in
      (out_edge c.0 q c.1 (c.2 ∙ k.2), subst (IsLive h) (c.2 ∙ k.2) there)

  -- so the views show it alike
  same : IsKeptAt g h (first_point v)
  same = record {
    dead = subst (IsDead h) first (dead_shown M lawful_M h whole_h view_h w is);
    last = ap h.last (sym first) ∙ view_h.last w (text_shown M lawful_M h whole_h view_h w is) ∙ last ∙ sym (view_g.last v shown);
    ahead = ahead;
    back = back;
    enters = enters;
    departs = departs;
  }

-- ---- all vertices

-- vertices that are alike are both dead text, or none is
dead_alike : (S T : List Record) (x y : Vertex) → AreAlike S T x y → IsDeadText S x ↔ IsDeadText T y
dead_alike S T x y a = (
  λ d. record { vertex = a.here; text = sym a.kind ∙ d.text; dead = dead_is y.status (sym a.dead ∙ ap is_dead d.dead) },
  λ d. record { vertex = a.there; text = a.kind ∙ d.text; dead = dead_is x.status (a.dead ∙ ap is_dead d.dead) },
)

module _ (S T : List Record) (c : Record) (before : IsLawful S) (lawful : IsLawful T) (more : HasOneMore S T c)
    (g h : PointGraph) (whole_g : IsWhole g) (view_g : IsViewOf S g) (whole_h : IsWhole h) (view_h : IsViewOf T h)
    (points : List Point) (all : (p : Point) → IsTouchPoint S T c p → IsMet T points p) where
  -- a vertex that has none of the points has no touch point
  quiet_there : (v : Vertex) → IsShown S v → (IsTouched g points (first_point v) → ⊥) → IsQuiet S T c v
  quiet_there v is none p t lies =
      let k = vertex_of T p (point_kept S T c more p (point_of_vertex S p v is.vertex lies)) in
      let one = all p t k.it k.is k.lies in
      let f = finer S T c more v k.it p lies k.lies lawful is.vertex k.is in
      let low = f.low in
      let high = f.high in
      let from = one.lies.low in
      let upto = one.lies.high in
      let inside : LiesIn one.point v = record { change = f.change ∙ one.lies.change; low = omega (arith, low, from); high = omega (arith, high, upto) } in
      none (record { point = one.point; member = one.member; first = first_there S before g whole_g view_g v is one.point inside })

  quiet_back : (w : Vertex) → IsShown T w → (IsTouched h points (first_point w) → ⊥) → IsQuiet S T c w
  quiet_back w is none p t lies =
      let one = all p t w is.vertex lies in
      none (record { point = one.point; member = one.member; first = first_there T lawful h whole_h view_h w is one.point one.lies })

  -- the later view keeps what the earlier one has
  there : IsKept g h points
  there p d none =
      let k = view_g.only p d.vertex in
      let v = k.0 in
      let dead = shown_dead S before g whole_g view_g v k.1 (subst (IsDead g) (sym k.2) d) in
      let kept = kept_there S T c more before lawful v dead (quiet_there v k.1 (λ t. none (subst (IsTouched g points) k.2 t))) in
      let w = kept.0 in
      let one = kept.1 in
      let near : HasNeighboursOf S T v w = record {
        outs = λ x l. (let n = out_there S T c more before lawful v w one x l in (n.0, n.1, n.2, dead_alike S T x n.0 n.3));
        ins = λ x l. (let n = in_there S T c more before lawful v w one x l in let alike = dead_alike S T x n.0 n.3 in (n.0, n.1, n.2, alike, λ was. n.4 (alike.0 was)));
      } in
      subst (IsKeptAt g h) k.2 (same S T before lawful g h whole_g view_g whole_h view_h v w one.was one.is (sym one.first) (sym one.last) near)

  -- and the earlier one what the later one has
  here_too : IsKept h g points
  here_too p d none =
      let k = view_h.only p d.vertex in
      let w = k.0 in
      let dead = shown_dead T lawful h whole_h view_h w k.1 (subst (IsDead h) (sym k.2) d) in
      let kept = kept_back S T c more before lawful w dead (quiet_back w k.1 (λ t. none (subst (IsTouched h points) k.2 t))) in
      let v = kept.0 in
      let one = kept.1 in
      let near : HasNeighboursOf T S w v = record {
        outs = λ y l. (let n = out_back S T c more before lawful v w one y l in let alike = dead_alike S T n.0 y n.3 in (n.0, n.1, sym n.2, (alike.1, alike.0)));
        ins = λ y l. (let n = in_back S T c more before lawful v w one y l in let alike = dead_alike S T n.0 y n.3 in (n.0, n.1, sym n.2, (alike.1, alike.0), λ is. sym (n.4 is)));
      } in
      subst (IsKeptAt h g) k.2 (same T S lawful before h g whole_h view_h whole_g view_g w v one.is one.was one.first one.last near)

  -- the views keep each dead vertex that has none of the points
  pub views_kept : IsKept g h points × IsKept h g points
  views_kept = (there, here_too)

-- so does the graph of a lawful list
pub others_kept : OthersAreKept
others_kept S T c before lawful more points all =
    views_kept S T c before lawful more (graph_of S) (graph_of T) (graph_whole S) (graph_is_view S before) (graph_whole T) (graph_is_view T lawful) points all
