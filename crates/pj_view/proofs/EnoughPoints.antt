-- Points that are found in a list lie in each vertex with a touch point, whatever list has one change more.
use Rattle.std.proofs.Common.{◌≡◌, ◌∙◌, sym, ap, subst, refl, ℕ, ◌+◌, ◌-◌, ◌<◌, ◌≤◌, Bool, true, false, List, inl, inr, arith}
use Rattle.std.specs.Prelude.{◌≢◌, ◌⊎◌, Contains}
use Rattle.std.proofs.lemmas.Bool.{cases_lt}
use Rattle.pj_change.specs.declared.point.Point.{Point}
use Rattle.pj_change.specs.declared.point.Place.TheVariants as placed
use Rattle.pj_change.specs.declared.graph.Vertex.{Vertex}
use Rattle.pj_change.specs.declared.row.EdgeRow.{EdgeRow}
use Rattle.pj_change.specs.declared.change.Record.{Record}
use Rattle.pj_change.specs.Before.{Leads}
use Rattle.pj_change.specs.EdgeRows.{IsEdgeRow}
use Rattle.pj_change.specs.Lawful.{IsLawful}
use Rattle.pj_change.specs.PointsIn.{LiesIn}
use Rattle.pj_change.specs.Positions.{own_point}
use Rattle.pj_change.specs.Vertices.{IsVertex, first_point, last_point}
use Rattle.pj_change.proofs.EqualNames.{at_is}
use Rattle.pj_change.proofs.LawfulLists.{set_of}
use Rattle.pj_change.proofs.OneVertex.{nonempty}
use Rattle.pj_change.proofs.VertexOfPoint.{vertex_of, point_of_vertex, one_vertex_at, lawful_one_text}
use Rattle.pj_edges.specs.OwnRows.{rows_of}
use Rattle.pj_outline.proofs.VertexRows.{edge_leaves_last, edge_enters_first}
use Rattle.pj_view.specs.Added.{HasEntry, HasStarts, IsEnd, MayTurn, itself, ahead}
use Rattle.pj_view.specs.Added as added
use Rattle.pj_view.specs.Touched.{AreBeside, HasOneIn, HasOneMore, IsAltered, IsMet, IsNewCut, IsTouchPoint, is_dead, is_dead_in, beside, cut_behind, source, target}
use Rattle.pj_view.specs.Touched as touch
use Rattle.pj_view.proofs.FinerVertices.{IsFiner, finer}
use Rattle.pj_view.proofs.KeptEdges.{IsNewRow, said, inside, Joins, leads_joins, joins_leads, row_from}
use Rattle.pj_view.proofs.KeptVertices.{dead_in, new_alive}
use Rattle.pj_view.proofs.RowKinds.{shows, is_text, stands_point, text_ends}
use Rattle.pj_view.proofs.StatusKept.{may_or_not, status_kept}
use Rattle.pj_view.proofs.ViewPoints.{lies_first, lies_last}

-- the points have the starts, the new cuts, and what is dead beside a start, before a new cut or at an end of a row of c that is no point of c
pub record AreEnough (S : List Record) (c : Record) (starts points : List Point) : Type 0 where
  pub of_starts : (p : Point) → Contains starts p → Contains points p
  pub cut : (p : Point) → IsNewCut S c p → Contains points p
  pub after : (x y : Vertex) → Leads S x y → (q : Point) → Contains starts q → LiesIn q x → is_dead_in S (first_point y) ≡ true → Contains points (first_point y)
  pub before : (x y : Vertex) → Leads S x y → Contains starts (first_point y) → is_dead_in S (first_point x) ≡ true → Contains points (first_point x)
  pub behind : (p : Point) → IsNewCut S c (record { change = p.change; offset = p.offset + 1 }) → is_dead_in S p ≡ true → Contains points p
  pub end : (row : EdgeRow) → Contains (rows_of c) row → (p : Point) → IsEnd row p → p.change ≢ c.name → is_dead_in S p ≡ true → Contains points p

module _ (S : List Record) (before_is : IsLawful S) (c : Record) (starts points : List Point) (start : HasStarts S c starts) (enough : AreEnough S c starts points) (T : List Record) (lawful : IsLawful T) (more : HasOneMore S T c) where
  -- ---- what turns

  may_turn : (p : Point) → is_dead_in S p ≢ is_dead_in T p → MayTurn S c p
  may_turn p differs = elim (may_or_not S c p) [
    | inl m ↦ m
    | inr still ↦ absurd (differs (ap is_dead (sym (status_kept S T c more before_is p still))))
  ]

  -- a vertex whose first point is dead in one of the two alone has one of the points
  turned : (w : Vertex) → IsVertex T w → is_dead_in S (first_point w) ≢ is_dead_in T (first_point w) → HasOneIn points w
  turned w is differs = by (start.turns (first_point w) (may_turn (first_point w) differs))
    where
      by : HasEntry S starts (first_point w) → HasOneIn points w
      by (itself m) = record { point = first_point w; member = enough.of_starts (first_point w) m; lies = lies_first T w is }
      by (ahead v v_is has q m lies upto) =
          let f = finer S T c more v w (first_point w) has (lies_first T w is) lawful v_is is in
          elim (cases_lt v.start w.start) [
            | inl l ↦ record { point = first_point w; member = enough.cut (first_point w) (f.begins l); lies = lies_first T w is }
            | inr l ↦ (
                let from = lies.low in
                let some = nonempty T w is in
                let low : w.start ≤ q.offset = omega (arith, from, l) in
                let high : q.offset < w.end = omega (arith, upto, some) in
                record { point = q; member = enough.of_starts q m; lies = record { change = sym f.change ∙ lies.change; low = low; high = high } })
          ]

  -- ---- what is dead in S

  -- a vertex with a point that is dead in S lies in a vertex of S
  old_vertex : (w : Vertex) → IsVertex T w → (p : Point) → LiesIn p w → is_dead_in S p ≡ true → (x : Vertex) × IsVertex S x × IsFiner S c x w
  old_vertex w is p lies dead =
      let h = point_of_vertex T p w is lies in
      let member : Contains S h.owner = elim (more.only h.owner h.member) [
        | inl m ↦ m
        | inr s ↦ absurd (new_alive S T c more before_is p (sym h.name ∙ ap (λ (r : Record). r.name) s) dead)
      ] in
      let k = vertex_of S p (record { owner = h.owner; member = member; name = h.name; kind = h.kind; there = h.there }) in
      (k.it, k.is, finer S T c more k.it w p k.lies lies lawful k.is is)

  -- the vertex of S has what lies in it
  lies_too : (x w : Vertex) → IsFiner S c x w → (p : Point) → LiesIn p w → LiesIn p x
  lies_too x w f p lies =
      let low = f.low in
      let high = f.high in
      let from = lies.low in
      let upto = lies.high in
      record { change = f.change ∙ lies.change; low = omega (arith, low, from); high = omega (arith, high, upto) }

  -- and then all its points are dead in S
  all_dead : (w : Vertex) → IsVertex T w → (p q : Point) → LiesIn p w → LiesIn q w → is_dead_in S p ≡ true → is_dead_in S q ≡ true
  all_dead w is p q a b dead =
      let k = old_vertex w is p a dead in
      dead_in S before_is k.0 k.1 q (lies_too k.0 w k.2 q b) ∙ sym (dead_in S before_is k.0 k.1 p (lies_too k.0 w k.2 p a)) ∙ dead

  -- a point that is dead in T is so in S, or its vertex has one of the points
  met_or_dead : (w : Vertex) → IsVertex T w → (p : Point) → LiesIn p w → is_dead_in T p ≡ true → HasOneIn points w ⊎ (is_dead_in S p ≡ true)
  met_or_dead w is p lies dead = by (is_dead_in S p) refl
    where
      by : (b : Bool) → is_dead_in S p ≡ b → HasOneIn points w ⊎ (is_dead_in S p ≡ true)
      by true e = inr e
      by false e = inl (turned w is (λ same.
          (let first = lies_first T w is in
          let now : is_dead_in T (first_point w) ≡ true = dead_in T lawful w is (first_point w) first ∙ sym (dead_in T lawful w is p lies) ∙ dead in
          let clash : false ≡ true = sym e ∙ all_dead w is (first_point w) p first lies (same ∙ now) in
          cc)))

  -- ---- beside what is altered

  -- one of the starts lies in the vertex of S that has an altered one
  start_in : (u : Vertex) → IsVertex T u → IsAltered S T c u → (x : Vertex) → IsVertex S x → IsFiner S c x u → (q : Point) × Contains starts q × LiesIn q x
  start_in u is altered x x_is f = of altered
    where
      first : LiesIn (first_point u) x
      first = lies_too x u f (first_point u) (lies_first T u is)

      entered : HasEntry S starts (first_point u) → (q : Point) × Contains starts q × LiesIn q x
      entered (itself m) = (first_point u, m, first)
      entered (ahead v v_is has q m lies upto) =
          let same : v ≡ x = one_vertex_at S (lawful_one_text S (set_of S before_is)) (first_point u) v x v_is x_is has first in
          (q, m, subst (LiesIn q) same lies)

      at_cut : (b : Bool) → is_dead_in S (first_point u) ≡ b → IsNewCut S c (first_point u) → is_dead_in T (first_point u) ≡ true → (q : Point) × Contains starts q × LiesIn q x
      at_cut true e new dead = (first_point u, start.cuts (first_point u) new e, first)
      at_cut false e new dead = entered (start.turns (first_point u) (may_turn (first_point u) (λ same. (let clash : false ≡ true = sym e ∙ same ∙ dead in cc))))

      of : IsAltered S T c u → (q : Point) × Contains starts q × LiesIn q x
      of (inl differs) = entered (start.turns (first_point u) (may_turn (first_point u) differs))
      of (inr (new, dead)) = at_cut (is_dead_in S (first_point u)) refl new dead

  -- where that one begins with the altered one, it is the first point of both
  start_at : (u : Vertex) → IsVertex T u → IsAltered S T c u → (x : Vertex) → IsVertex S x → IsFiner S c x u → first_point x ≡ first_point u → Contains starts (first_point x)
  start_at u is altered x x_is f begins = of altered
    where
      first : LiesIn (first_point u) x
      first = lies_too x u f (first_point u) (lies_first T u is)

      entered : HasEntry S starts (first_point u) → Contains starts (first_point x)
      entered (itself m) = subst (Contains starts) (sym begins) m
      entered (ahead v v_is has q m lies upto) =
          let same : v ≡ x = one_vertex_at S (lawful_one_text S (set_of S before_is)) (first_point u) v x v_is x_is has first in
          let there : LiesIn q x = subst (LiesIn q) same lies in
          let low = there.low in
          let begun : x.start ≡ u.start = ap (λ (p : Point). p.offset) begins in
          let offset : q.offset ≡ x.start = omega (arith, low, upto, begun) in
          let point : q ≡ first_point x = λ i. record { change = (sym there.change) i; offset = offset i } in
          subst (Contains starts) point m

      at_cut : (b : Bool) → is_dead_in S (first_point u) ≡ b → IsNewCut S c (first_point u) → is_dead_in T (first_point u) ≡ true → Contains starts (first_point x)
      at_cut true e new dead = subst (Contains starts) (sym begins) (start.cuts (first_point u) new e)
      at_cut false e new dead = entered (start.turns (first_point u) (may_turn (first_point u) (λ same. (let clash : false ≡ true = sym e ∙ same ∙ dead in cc))))

      of : IsAltered S T c u → Contains starts (first_point x)
      of (inl differs) = entered (start.turns (first_point u) (may_turn (first_point u) differs))
      of (inr (new, dead)) = at_cut (is_dead_in S (first_point u)) refl new dead

  -- an end of a row of c that is dead in S is one of the points
  at_end : (row : EdgeRow) → Contains (rows_of c) row → (p : Point) → IsEnd row p → is_dead_in S p ≡ true → Contains points p
  at_end row m p is_end dead = enough.end row m p is_end (λ own. new_alive S T c more before_is p own dead) dead

  -- a point of a vertex that is dead in S is not of c
  not_own : (p : Point) (r : Record) (at : ℕ) → own_point r at ≡ p → is_dead_in S p ≡ true → r ≡ c → ⊥
  not_own p r at point dead s = new_alive S T c more before_is p (sym (ap (λ (q : Point). q.change) point) ∙ ap (λ (d : Record). d.name) s) dead

  -- the ends of a row of S that is no name's
  record OldEnds (row : EdgeRow) (p : Point) : Type 0 where
    from : Vertex
    from_is : IsVertex S from
    to : Vertex
    to_is : IsVertex S to
    leads : Leads S from to
    last : p ≡ last_point from
    has_last : LiesIn p from
    first : row.target ≡ first_point to
    has_first : LiesIn row.target to

  old_ends : (u v : Vertex) (j : Joins T u v) → IsEdgeRow S j.row → OldEnds j.row (last_point u)
  old_ends u v j is =
      let p = last_point u in
      let ends = text_ends S before_is j.row is j.other in
      let x = vertex_of S p (stands_point S shows refl p (ends.1 p j.from)) in
      let y = vertex_of S j.row.target (stands_point S is_text refl j.row.target ends.0) in
      let last : p ≡ last_point x.it = edge_leaves_last S before_is j.row is x.it x.is p j.from x.lies in
      let first : j.row.target ≡ first_point y.it = edge_enters_first S before_is j.row is y.it y.is y.lies in
      record {
        from = x.it;
        from_is = x.is;
        to = y.it;
        to_is = y.is;
        leads = joins_leads S x.it y.it x.is y.is (record { row = j.row; is = is; other = j.other; from = j.from ∙ ap placed.At last; to = first });
        last = last;
        has_last = x.lies;
        first = first;
        has_first = y.lies;
      }

  -- a dead vertex to which an edge leads from an altered one
  met_ahead : (u v : Vertex) → Leads T u v → IsAltered S T c u → is_dead_in S (first_point v) ≡ true → HasOneIn points v
  met_ahead u v l altered old = elim (row_from S T c more j.row j.is) [ inl is ↦ of_old is | inr new ↦ of_new new ]
    where
      j : Joins T u v
      j = leads_joins T u v l

      here : (p : Point) → p ≡ first_point v → Contains points p → HasOneIn points v
      here p e m = record { point = first_point v; member = subst (Contains points) e m; lies = lies_first T v l.target }

      of_old : IsEdgeRow S j.row → HasOneIn points v
      of_old is =
          let k = old_ends u v j is in
          let q = start_in u l.source altered k.from k.from_is (finer S T c more k.from u (last_point u) k.has_last (lies_last T u l.source) lawful k.from_is l.source) in
          let same : first_point k.to ≡ first_point v = sym k.first ∙ j.to in
          here (first_point k.to) same (enough.after k.from k.to k.leads q.0 q.1 q.2 (ap (is_dead_in S) same ∙ old))

      of_new : IsNewRow S c j.row → HasOneIn points v
      of_new (said m) = here j.row.target j.to (at_end j.row m j.row.target added.target (ap (is_dead_in S) j.to ∙ old))
      of_new (inside r at some is either) =
          let point : own_point r at ≡ first_point v = sym (ap (λ (q : EdgeRow). q.target) is) ∙ j.to in
          elim either [
            | inl s ↦ absurd (not_own (first_point v) r at point old s)
            | inr m ↦ here (own_point r at) point (enough.cut (own_point r at) m)
          ]

  -- a dead vertex from which an edge leads to an altered one
  met_back : (u v : Vertex) → Leads T v u → IsAltered S T c u → is_dead_in S (first_point v) ≡ true → HasOneIn points v
  met_back u v l altered old = elim (row_from S T c more j.row j.is) [ inl is ↦ of_old is | inr new ↦ of_new new ]
    where
      j : Joins T v u
      j = leads_joins T v u l

      first : LiesIn (first_point v) v
      first = lies_first T v l.source

      last : LiesIn (last_point v) v
      last = lies_last T v l.source

      dead_last : is_dead_in S (last_point v) ≡ true
      dead_last = all_dead v l.source (first_point v) (last_point v) first last old

      here : Contains points (last_point v) → HasOneIn points v
      here m = record { point = last_point v; member = m; lies = last }

      of_old : IsEdgeRow S j.row → HasOneIn points v
      of_old is =
          let k = old_ends v u j is in
          let f = finer S T c more k.from v (last_point v) k.has_last last lawful k.from_is l.source in
          let same : first_point k.to ≡ first_point u = sym k.first ∙ j.to in
          let begun = start_at u l.target altered k.to k.to_is (finer S T c more k.to u (first_point u) (subst (λ p. LiesIn p k.to) j.to k.has_first) (lies_first T u l.target) lawful k.to_is l.target) same in
          let begin = lies_first S k.from k.from_is in
          let dead : is_dead_in S (first_point k.from) ≡ true =
          dead_in S before_is k.from k.from_is (first_point k.from) begin ∙ sym (dead_in S before_is k.from k.from_is (first_point v) (lies_too k.from v f (first_point v) first)) ∙ old in
          let m = enough.before k.from k.to k.leads begun dead in
          elim (cases_lt k.from.start v.start) [
            | inl n ↦ record { point = first_point v; member = enough.cut (first_point v) (f.begins n); lies = first }
            | inr n ↦ (
                let some = nonempty T v l.source in
                let low = f.low in
                record { point = first_point k.from; member = m; lies = record { change = sym f.change; low = n; high = omega (arith, low, some) } })
          ]

      of_new : IsNewRow S c j.row → HasOneIn points v
      of_new (said m) = here (at_end j.row m (last_point v) (added.source j.from) dead_last)
      of_new (inside r at some is either) =
          let point : own_point r (at - 1) ≡ last_point v = at_is (own_point r (at - 1)) (last_point v) (sym (ap (λ (q : EdgeRow). q.source) is) ∙ j.from) in
          elim either [
            | inl s ↦ absurd (not_own (last_point v) r (at - 1) point dead_last s)
            | inr m ↦ here (
                let offset : at - 1 ≡ v.end - 1 = ap (λ (p : Point). p.offset) point in
                let end : at ≡ v.end - 1 + 1 = omega (arith, some, offset) in
                let behind : own_point r at ≡ record { change = v.change; offset = v.end - 1 + 1 } = λ i. record { change = (point i).change; offset = end i } in
                enough.behind (last_point v) (subst (IsNewCut S c) behind m) dead_last)
          ]

  met_beside : (u v : Vertex) → AreBeside T u v → IsVertex T v → IsAltered S T c u → is_dead_in T (first_point v) ≡ true → HasOneIn points v
  met_beside u v near is altered dead = elim (met_or_dead v is (first_point v) (lies_first T v is) dead) [ inl h ↦ h | inr old ↦ by near old ]
    where
      by : AreBeside T u v → is_dead_in S (first_point v) ≡ true → HasOneIn points v
      by (inl l) old = met_ahead u v l altered old
      by (inr l) old = met_back u v l altered old

  -- ---- all touch points

  -- a vertex that has the first point of another is that one
  same_vertex : (v w : Vertex) → IsVertex T v → IsVertex T w → LiesIn (first_point v) w → v ≡ w
  same_vertex v w v_is is lies = one_vertex_at T (lawful_one_text T (set_of T lawful)) (first_point v) v w v_is is (lies_first T v v_is) lies

  beside_is : (u v : Vertex) → AreBeside T u v → IsVertex T v
  beside_is u v (inl l) = l.target
  beside_is u v (inr l) = l.source

  listed : (w : Vertex) → IsVertex T w → (p : Point) → LiesIn p w → is_dead_in T p ≡ true → (is_dead_in S p ≡ true → Contains points p) → HasOneIn points w
  listed w is p lies dead there = elim (met_or_dead w is p lies dead) [ inl h ↦ h | inr old ↦ record { point = p; member = there old; lies = lies } ]

  pub all_met : (p : Point) → IsTouchPoint S T c p → IsMet T points p
  all_met _ (touch.itself v v_is (inl differs)) w is lies = subst (HasOneIn points) (same_vertex v w v_is is lies) (turned v v_is differs)
  all_met _ (touch.itself v v_is (inr (new, dead))) w is lies = record { point = first_point v; member = enough.cut (first_point v) new; lies = lies }
  all_met _ (beside u v near altered dead) w is lies =
      let v_is = beside_is u v near in
      subst (HasOneIn points) (same_vertex v w v_is is lies) (met_beside u v near v_is altered dead)
  all_met p (cut_behind new dead) w is lies = listed w is p lies dead (enough.behind p new)
  all_met p (source row m k dead) w is lies = listed w is p lies dead (at_end row m p (added.source k))
  all_met _ (target row m dead) w is lies = listed w is row.target lies dead (at_end row m row.target added.target)
