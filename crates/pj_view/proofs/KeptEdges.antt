-- A change more keeps the edges of each dead vertex in which no touch point lies, and which of its neighbours are dead.
use Rattle.std.proofs.Common.{◌≡◌, ◌∙◌, sym, ap, subst, refl, ℕ, ◌+◌, ◌-◌, ◌<◌, true, List, inl, inr, arith}
use Rattle.std.specs.Prelude.{◌≢◌, ◌⊎◌, Contains}
use Rattle.std.proofs.lemmas.Bool.{cases_lt}
use Rattle.pj_change.specs.declared.point.Point.{Point}
use Rattle.pj_change.specs.declared.point.Place.TheVariants as placed
use Rattle.pj_change.specs.declared.graph.Label.TheVariants as label
use Rattle.pj_change.specs.declared.graph.Vertex.{Vertex}
use Rattle.pj_change.specs.declared.row.EdgeRow.{EdgeRow}
use Rattle.pj_change.specs.declared.change.Record.{Record}
use Rattle.pj_change.specs.Before.{Leads, IsDeadText}
use Rattle.pj_change.specs.EdgeRows.{IsOwnRow, IsInnerRow, IsEdgeRow, inner_row, row_of, with_status}
use Rattle.pj_change.specs.Lawful.{IsLawful}
use Rattle.pj_change.specs.PointsIn.{LiesIn}
use Rattle.pj_change.specs.Positions.{place, own_point}
use Rattle.pj_change.specs.Vertices.{IsVertex, first_point, last_point}
use Rattle.pj_change.proofs.EdgesAndRows.{edge_row, row_edge}
use Rattle.pj_change.proofs.EqualNames.{at_is}
use Rattle.pj_change.proofs.OneVertex.{nonempty}
use Rattle.pj_change.proofs.VertexOfPoint.{vertex_of, point_of_vertex}
use Rattle.pj_edges.specs.OwnRows.{rows_of}
use Rattle.pj_edges.proofs.ListedRows.{own_row_listed}
use Rattle.pj_outline.proofs.VertexRows.{inside_above, edge_leaves_last, edge_enters_first}
use Rattle.pj_view.specs.Touched.{HasOneMore, AreBeside, IsNewCut, is_dead, is_dead_in, IsTouchPoint, itself, beside, cut_behind, source, target}
use Rattle.pj_view.proofs.FinerVertices.{IsFiner, cut_kept, cut_from, finer}
use Rattle.pj_view.proofs.KeptVertices.{AreOne, dead_in, new_alive, point_kept, stable, text_dead}
use Rattle.pj_view.proofs.RowKinds.{shows, is_text, stands_point, text_ends}
use Rattle.pj_view.proofs.ViewPoints.{lies_first, lies_last}

-- ---- rows

-- a row that the new change c gives, or a row inside a block of it, or inside a block that it cuts
pub data IsNewRow (S : List Record) (c : Record) (row : EdgeRow) : Type 0 where
  said : Contains (rows_of c) row → IsNewRow S c row
  inside : (r : Record) (at : ℕ) → 0 < at → row ≡ inner_row r at → (r ≡ c) ⊎ IsNewCut S c (own_point r at) → IsNewRow S c row

module _ (S T : List Record) (c : Record) (more : HasOneMore S T c) where
  -- the rows of before stay
  row_kept : (row : EdgeRow) → IsEdgeRow S row → IsEdgeRow T row
  row_kept row h = record {
    introducer = h.introducer;
    member = more.kept h.introducer h.member;
    number = h.number;
    hunk = h.hunk;
    there = h.there;
    is = elim h.is [
      | inl k ↦ inl k
      | inr k ↦ inr (record { at = k.at; inner = k.inner; cut = cut_kept S T c more (own_point h.introducer k.at) k.cut; is = k.is })
    ];
  }

  -- and all others are new
  pub row_from : (row : EdgeRow) → IsEdgeRow T row → IsEdgeRow S row ⊎ IsNewRow S c row
  row_from row h = by (more.only h.introducer h.member) h.is
    where
      by : Contains S h.introducer ⊎ (h.introducer ≡ c) → IsOwnRow h.introducer (place h.introducer.change.hunks h.number) h.hunk row ⊎ IsInnerRow T h.introducer (place h.introducer.change.hunks h.number) h.hunk row →
          IsEdgeRow S row ⊎ IsNewRow S c row
      by (inl m) (inl k) = inl (record { introducer = h.introducer; member = m; number = h.number; hunk = h.hunk; there = h.there; is = inl k })
      by (inl m) (inr k) = elim (cut_from S T c more (own_point h.introducer k.at) k.cut) [
        | inl old ↦ inl (record {
          introducer = h.introducer;
          member = m;
          number = h.number;
          hunk = h.hunk;
          there = h.there;
          is = inr (record { at = k.at; inner = k.inner; cut = old; is = k.is });
        })
        | inr new ↦ inr (inside h.introducer k.at (inside_above (place h.introducer.change.hunks h.number) h.hunk k.at k.inner) k.is (inr new))
      ]
      by (inr s) (inl k) = inr (said (subst (λ r. Contains (rows_of r) row) s ((own_row_listed h.introducer row).1 (record { number = h.number; hunk = h.hunk; there = h.there; own = k }))))
      by (inr s) (inr k) = inr (inside h.introducer k.at (inside_above (place h.introducer.change.hunks h.number) h.hunk k.at k.inner) k.is (inl s))

-- ---- edges by rows

-- the row of an edge that is no name's, from one vertex to another
pub record Joins (L : List Record) (u v : Vertex) : Type 0 where
  pub row : EdgeRow
  pub is : IsEdgeRow L row
  pub other : row.label ≢ label.Folder
  pub from : row.source ≡ placed.At (last_point u)
  pub to : row.target ≡ first_point v

pub leads_joins : (L : List Record) (u v : Vertex) → Leads L u v → Joins L u v
leads_joins L u v l = record { row = row_of l.edge; is = edge_row L l.edge l.real; other = l.label; from = l.from; to = l.to }

pub joins_leads : (L : List Record) (u v : Vertex) → IsVertex L u → IsVertex L v → Joins L u v → Leads L u v
joins_leads L u v a b j = (let edge = row_edge L j.row j.is in
    record { source = a; target = b; edge = with_status j.row edge.0; real = edge.1; label = j.other; from = j.from; to = j.to })

-- ---- the edges of one vertex of two lists

-- a neighbour of a vertex of S, and one of that of T, of one kind, both dead or both not
pub record AreAlike (S T : List Record) (x y : Vertex) : Type 0 where
  pub there : IsVertex S x
  pub here : IsVertex T y
  pub kind : x.kind ≡ y.kind
  pub dead : is_dead x.status ≡ is_dead y.status

module _ (S T : List Record) (c : Record) (more : HasOneMore S T c) (before : IsLawful S) (lawful : IsLawful T) (v w : Vertex) (one : AreOne S T c v w) where
  dead_first : is_dead_in T (first_point w) ≡ true
  dead_first = text_dead T lawful w one.is (first_point w) (lies_first T w one.is.vertex)

  dead_last : is_dead_in T (last_point w) ≡ true
  dead_last = text_dead T lawful w one.is (last_point w) (lies_last T w one.is.vertex)

  -- it is not of the new change
  not_own : w.change ≡ c.name → ⊥
  not_own e = new_alive S T c more before (first_point v) (ap (λ (p : Point). p.change) one.first ∙ e) (text_dead S before v one.was (first_point v) (lies_first S v one.was.vertex))

  -- a new row does not leave it
  new_out : (row : EdgeRow) → IsNewRow S c row → row.source ≡ placed.At (last_point w) → ⊥
  new_out row (said m) e = one.quiet_last (source row m e dead_last)
  new_out row (inside r at some is either) e =
      let point : own_point r (at - 1) ≡ last_point w = at_is (own_point r (at - 1)) (last_point w) (sym (ap (λ (q : EdgeRow). q.source) is) ∙ e) in
      elim either [
        | inl s ↦ not_own (sym (ap (λ (p : Point). p.change) point) ∙ ap (λ (r : Record). r.name) s)
        | inr m ↦ one.quiet_last (
            let offset : at - 1 ≡ w.end - 1 = ap (λ (p : Point). p.offset) point in
            let end : at ≡ w.end - 1 + 1 = omega (arith, some, offset) in
            let behind : own_point r at ≡ record { change = w.change; offset = w.end - 1 + 1 } = λ i. record { change = (point i).change; offset = end i } in
            cut_behind (subst (IsNewCut S c) behind m) dead_last)
      ]

  -- nor does it enter it
  new_into : (row : EdgeRow) → IsNewRow S c row → row.target ≡ first_point w → ⊥
  new_into row (said m) e = one.quiet_first (subst (IsTouchPoint S T c) e (target row m (subst (λ p. is_dead_in T p ≡ true) (sym e) dead_first)))
  new_into row (inside r at some is either) e =
      let point : own_point r at ≡ first_point w = sym (ap (λ (q : EdgeRow). q.target) is) ∙ e in
      elim either [
        | inl s ↦ not_own (sym (ap (λ (p : Point). p.change) point) ∙ ap (λ (r : Record). r.name) s)
        | inr m ↦ one.quiet_first (itself w one.is.vertex (inr (subst (IsNewCut S c) point m, dead_first)))
      ]

  old_row : (row : EdgeRow) → IsEdgeRow T row → (IsNewRow S c row → ⊥) → IsEdgeRow S row
  old_row row h none = elim (row_from S T c more row h) [ inl k ↦ k | inr n ↦ absurd (none n) ]

  -- a vertex beside it is as dead as the one of before in which it lies
  alike : (x y : Vertex) → IsVertex S x → IsVertex T y → IsFiner S c x y → AreBeside T y w → AreAlike S T x y
  alike x y a b f near =
      let some = nonempty T y b in
      let low = f.low in
      let high = f.high in
      let within : LiesIn (first_point y) x = record { change = f.change; low = low; high = omega arith } in
      let same : is_dead_in S (first_point y) ≡ is_dead_in T (first_point y) = stable _ _ (λ n. one.quiet_first (beside y w near (inl n) dead_first)) in
      record { there = a; here = b; kind = f.kind; dead = sym (dead_in S before x a (first_point y) within) ∙ same ∙ dead_in T lawful y b (first_point y) (lies_first T y b) }

  -- where it is dead and ends with that one, it begins with it
  begin_together : (x y : Vertex) → IsFiner S c x y → AreBeside T y w → IsDeadText T y → last_point x ≡ last_point y → first_point y ≡ first_point x
  begin_together x y f near dead last =
      let low = f.low in
      let start : y.start ≡ x.start = elim (cases_lt x.start y.start) [
        | inl k ↦ absurd (one.quiet_first (beside y w near (inr (f.begins k, text_dead T lawful y dead (first_point y) (lies_first T y dead.vertex))) dead_first))
        | inr k ↦ omega arith
      ] in
      λ i. record { change = sym f.change i; offset = start i }

  -- ---- where edges lead

  -- an edge leads to a vertex of before, and to one of now that begins with it
  pub out_there : (x : Vertex) → Leads S v x → (y : Vertex) × Leads T w y × (first_point y ≡ first_point x) × AreAlike S T x y
  out_there x l =
      let j = leads_joins S v x l in
      let p = first_point x in
      let k = vertex_of T p (point_kept S T c more p (point_of_vertex S p x l.target (lies_first S x l.target))) in
      let y = k.it in
      let f = finer S T c more x y p (lies_first S x l.target) k.lies lawful l.target k.is in
      let low = f.low in
      let from = k.lies.low in
      let start : y.start ≡ x.start = omega arith in
      let same : first_point y ≡ first_point x = λ i. record { change = sym f.change i; offset = start i } in
      let joins : Joins T w y = record { row = j.row; is = row_kept S T c more j.row j.is; other = j.other; from = j.from ∙ ap placed.At one.last; to = j.to ∙ sym same } in
      let leads = joins_leads T w y one.is.vertex k.is joins in
      (y, leads, same, alike x y l.target k.is f (inr leads))

  pub out_back : (y : Vertex) → Leads T w y → (x : Vertex) × Leads S v x × (first_point y ≡ first_point x) × AreAlike S T x y
  out_back y l =
      let j = leads_joins T w y l in
      let is = old_row j.row j.is (λ n. new_out j.row n j.from) in
      let k = vertex_of S j.row.target (stands_point S is_text refl j.row.target (text_ends S before j.row is j.other).0) in
      let x = k.it in
      let first : j.row.target ≡ first_point x = edge_enters_first S before j.row is x k.is k.lies in
      let joins : Joins S v x = record { row = j.row; is = is; other = j.other; from = j.from ∙ ap placed.At (sym one.last); to = first } in
      let f = finer S T c more x y (first_point y) (subst (λ p. LiesIn p x) j.to k.lies) (lies_first T y l.target) lawful k.is l.target in
      (x, joins_leads S v x one.was.vertex k.is joins, sym j.to ∙ first, alike x y k.is l.target f (inr l))

  -- ---- whence they come

  -- an edge comes from a vertex of before, and from one of now that ends with it, and begins with it where it is dead
  pub in_there : (x : Vertex) → Leads S x v → (y : Vertex) × Leads T y w × (last_point y ≡ last_point x) × AreAlike S T x y × (IsDeadText T y → first_point y ≡ first_point x)
  in_there x l =
      let j = leads_joins S x v l in
      let p = last_point x in
      let k = vertex_of T p (point_kept S T c more p (point_of_vertex S p x l.source (lies_last S x l.source))) in
      let y = k.it in
      let f = finer S T c more x y p (lies_last S x l.source) k.lies lawful l.source k.is in
      let high = f.high in
      let upto = k.lies.high in
      let some = nonempty S x l.source in
      let end : y.end - 1 ≡ x.end - 1 = omega arith in
      let last : last_point x ≡ last_point y = λ i. record { change = f.change i; offset = sym end i } in
      let joins : Joins T y w = record { row = j.row; is = row_kept S T c more j.row j.is; other = j.other; from = j.from ∙ ap placed.At last; to = j.to ∙ one.first } in
      let leads = joins_leads T y w k.is one.is.vertex joins in
      (y, leads, sym last, alike x y l.source k.is f (inl leads), λ d. begin_together x y f (inl leads) d last)

  pub in_back : (y : Vertex) → Leads T y w → (x : Vertex) × Leads S x v × (last_point y ≡ last_point x) × AreAlike S T x y × (IsDeadText T y → first_point y ≡ first_point x)
  in_back y l =
      let j = leads_joins T y w l in
      let is = old_row j.row j.is (λ n. new_into j.row n j.to) in
      let p = last_point y in
      let k = vertex_of S p (stands_point S shows refl p ((text_ends S before j.row is j.other).1 p j.from)) in
      let x = k.it in
      let last : p ≡ last_point x = edge_leaves_last S before j.row is x k.is p j.from k.lies in
      let joins : Joins S x v = record { row = j.row; is = is; other = j.other; from = j.from ∙ ap placed.At last; to = j.to ∙ sym one.first } in
      let f = finer S T c more x y p k.lies (lies_last T y l.source) lawful k.is l.source in
      (x, joins_leads S x v k.is one.was.vertex joins, last, alike x y k.is l.source f (inl l), λ d. begin_together x y f (inl l) d (sym last))
