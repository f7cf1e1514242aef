-- The neighbours that a view of a lawful list shows, by the rows of its table.
use Rattle.std.proofs.Common.{◌≡◌, ◌∙◌, sym, ap, subst, refl, ℕ, Bool, true, false, List, Option, Some, None, MatchOption, inl, inr}
use Rattle.std.specs.Prelude.{◌≢◌, ◌⊎◌, IsTrue, Contains, slice_get}
use Rattle.std.specs.Ordering.{is_lt}
use Rattle.std.specs.declared.cmp.Ordering.{Ordering}
use Rattle.std.specs.declared.cmp.Ordering.TheVariants.{Less, Equal, Greater}
use Rattle.std.proofs.lemmas.Option.{same_Some}
use Rattle.pj_change.specs.declared.point.Point.{Point}
use Rattle.pj_change.specs.declared.point.Place.{Place}
use Rattle.pj_change.specs.declared.point.Place.TheVariants as placed
use Rattle.pj_change.specs.declared.kind.Kind.{Kind}
use Rattle.pj_change.specs.declared.kind.Kind.TheVariants.{NameAt, FileInode, DirInode, Text}
use Rattle.pj_change.specs.declared.graph.Label.{Label}
use Rattle.pj_change.specs.declared.graph.Label.TheVariants as label
use Rattle.pj_change.specs.declared.graph.Vertex.{Vertex}
use Rattle.pj_change.specs.declared.graph.VertexKind.TheVariants as vertex_kind
use Rattle.pj_change.specs.declared.row.EdgeRow.{EdgeRow}
use Rattle.pj_change.specs.declared.change.Record.{Record}
use Rattle.pj_change.specs.Before.{Leads}
use Rattle.pj_change.specs.EdgeRows.{IsEdgeRow, row_of, with_status}
use Rattle.pj_change.specs.Graph.{point_cmp, place_cmp}
use Rattle.pj_change.specs.Lawful.{IsLawful, IsLawfulSet}
use Rattle.pj_change.specs.PointsIn.{LiesIn}
use Rattle.pj_change.specs.Positions.{kind_at}
use Rattle.pj_change.specs.Sets.{HaveOneText}
use Rattle.pj_change.specs.Vertices.{IsVertex, IsVertexBy, first_point, last_point}
use Rattle.pj_change.proofs.EdgesAndRows.{edge_row, row_edge}
use Rattle.pj_change.proofs.EqualNames.{at_is}
use Rattle.pj_change.proofs.FileEdges.{leads_to_text}
use Rattle.pj_change.proofs.LawfulLists.{one_record, set_of}
use Rattle.pj_change.proofs.Members.{same_member}
use Rattle.pj_change.proofs.OneVertex.{by_any, same_last}
use Rattle.pj_change.proofs.VertexOfPoint.{VertexOf, vertex_of, lawful_one_text}
use Rattle.pj_dead.specs.PointGraphs.{PointGraph, IsWhole, is_above, next_above}
use Rattle.pj_dead.specs.PointGraphs as shown
use Rattle.pj_dead.specs.ViewOf.{IsShown, IsViewOf}
use Rattle.pj_dead.proofs.SetRows.{leads_from}
use Rattle.pj_edges.specs.OwnRows.{AreRowsOf}
use Rattle.pj_edges.specs.Rows.{Rows, has_row}
use Rattle.pj_outline.proofs.TextOfInsertions.{not_name}
use Rattle.pj_outline.proofs.VertexRows.{leaves_last, enters_first}
use Rattle.pj_cuts.specs.Counted.{at_offset}
use Rattle.pj_outline.specs.Ends.{text_vertex}
use Rattle.pj_view.specs.Ends.{IsLastOf, IsTextFrom, IsNoText, IsBehind, IsNoTarget, IsNextTarget, IsNoSource, IsNextSource}
use Rattle.pj_view.specs.SetGraph.{first_at}
use Rattle.pj_view.proofs.NextAbove.{next_some, next_none}
use Rattle.pj_view.proofs.RowKinds.{Stands, shows, is_text, stands_point, folder_ends, text_ends}
use Rattle.pj_view.proofs.ViewPoints.{lies_first, lies_last, text_shown, shown_last, before_last, last_before, first_there, first_none, first_text, last_is, not_file}

-- a bound for points, and the place of the last point of its text as a bound for places
pub data AreBounds (S : List Record) : Option Point → Option Place → Type 0 where
  no_bound : AreBounds S None None
  bound : {x m : Point} → IsLastOf S x m → AreBounds S (Some x) (Some (placed.At m))

-- ---- what stands in a vertex

module _ (S : List Record) (lawful : IsLawful S) where
  -- what stands at a point of a vertex
  kind_in : (v : Vertex) (h : IsVertex S v) (p : Point) → LiesIn p v → (test : Option Kind → Bool) (answer : Bool) → Stands S test answer p → test (kind_at h.owner.change.hunks v.start) ≡ answer
  kind_in v h p lies test answer s =
      let same : s.owner ≡ h.owner = one_record S lawful s.owner h.owner s.member h.member (s.name ∙ sym lies.change ∙ sym h.name) in
      let at : kind_at h.owner.change.hunks p.offset ≡ kind_at h.owner.change.hunks v.start = by_any S h.owner v p.offset (record { low = lies.low; high = lies.high }) (kind_at h.owner.change.hunks v.start) refl h.is in
      ap test (sym at) ∙ ap (λ (r : Record). test (kind_at r.change.hunks p.offset)) (sym same) ∙ s.is

  shown_kind : (v : Vertex) (h : IsVertex S v) → (v.kind ≡ vertex_kind.Text) ⊎ (v.kind ≡ vertex_kind.File) → (k : Option Kind) → IsVertexBy S h.owner v k → shows k ≡ true
  shown_kind v h kind None is = absurd is
  shown_kind v h kind (Some (NameAt hunk)) is = absurd (elim kind [
    | inl t ↦ not_name (slice_get h.owner.change.hunks hunk) (sym is.1 ∙ t)
    | inr f ↦ not_file (slice_get h.owner.change.hunks hunk) (sym is.1 ∙ f)
  ])
  shown_kind v h kind (Some (FileInode hunk)) is = refl
  shown_kind v h kind (Some (DirInode hunk)) is = absurd (elim kind [
    | inl t ↦ (let c : vertex_kind.Dir ≡ vertex_kind.Text = sym is.1 ∙ t in cc)
    | inr f ↦ (let c : vertex_kind.Dir ≡ vertex_kind.File = sym is.1 ∙ f in cc)
  ])
  shown_kind v h kind (Some (Text hunk first past)) is = refl

  text_kind : (v : Vertex) (h : IsVertex S v) → v.kind ≡ vertex_kind.Text → (k : Option Kind) → IsVertexBy S h.owner v k → is_text k ≡ true
  text_kind v h text None is = absurd is
  text_kind v h text (Some (NameAt hunk)) is = absurd (not_name (slice_get h.owner.change.hunks hunk) (sym is.1 ∙ text))
  text_kind v h text (Some (FileInode hunk)) is = absurd (let c : vertex_kind.File ≡ vertex_kind.Text = sym is.1 ∙ text in cc)
  text_kind v h text (Some (DirInode hunk)) is = absurd (let c : vertex_kind.Dir ≡ vertex_kind.Text = sym is.1 ∙ text in cc)
  text_kind v h text (Some (Text hunk first past)) is = refl

  -- what is shown is not hidden
  not_hidden : (v : Vertex) → IsShown S v → (p : Point) → LiesIn p v → Stands S shows false p → ⊥
  not_hidden v is p lies s =
      let h = is.vertex in
      let no = kind_in v h p lies shows false s in
      let yes = shown_kind v h is.kind (kind_at h.owner.change.hunks v.start) h.is in
      let c : true ≡ false = sym yes ∙ no in
      cc

  not_other : (v : Vertex) → IsVertex S v → v.kind ≡ vertex_kind.Text → (p : Point) → LiesIn p v → Stands S is_text false p → ⊥
  not_other v h text p lies s =
      let no = kind_in v h p lies is_text false s in
      let yes = text_kind v h text (kind_at h.owner.change.hunks v.start) h.is in
      let c : true ≡ false = sym yes ∙ no in
      cc

-- ---- edges and rows

module _ (S : List Record) (lawful : IsLawful S) (g : PointGraph) (whole : IsWhole g) (of : IsViewOf S g) (e : Rows) (rows : AreRowsOf S e) where
  set : IsLawfulSet S
  set = set_of S lawful

  one : HaveOneText S
  one = lawful_one_text S set

  -- what a row that is no name's joins
  record Joins (row : EdgeRow) : Type 0 where
    from : Vertex
    to : Vertex
    source : row.source ≡ placed.At (last_point from)
    target : row.target ≡ first_point to
    leads : Leads S from to

  row_joins : (row : EdgeRow) → has_row e row ≡ true → row.label ≢ label.Folder → Joins row
  row_joins row there other = by row.source refl
    where
      is : IsEdgeRow S row
      is = (rows row).0 there

      to : VertexOf S row.target
      to = vertex_of S row.target (stands_point S is_text refl row.target (text_ends S lawful row is other).0)

      target : row.target ≡ first_point to.it
      target = enters_first S lawful e rows row there to.it to.is to.lies

      by : (source : Place) → row.source ≡ source → Joins row
      by placed.Root f = absurd ((text_ends S lawful row is other).2 f)
      by (placed.At p) f =
          let from = vertex_of S p (stands_point S shows refl p ((text_ends S lawful row is other).1 p f)) in
          let last : p ≡ last_point from.it = leaves_last S lawful e rows row there from.it from.is p f from.lies in
          let source : row.source ≡ placed.At (last_point from.it) = f ∙ ap placed.At last in
          let edge = row_edge S row is in
          record {
            from = from.it;
            to = to.it;
            source = source;
            target = target;
            leads = record { source = from.is; target = to.is; edge = with_status row edge.0; real = edge.1; label = other; from = source; to = target };
          }

  joins_shown : (row : EdgeRow) (j : Joins row) → IsShown S j.from × IsShown S j.to
  joins_shown row j = (
    record { vertex = j.leads.source; kind = leads_from S set j.from j.to j.leads },
    record { vertex = j.leads.target; kind = inl (leads_to_text S set j.from j.to j.leads) },
  )

  -- so an edge of the view leads where the row does
  joined : (row : EdgeRow) (j : Joins row) → Contains (g.outs (first_point j.from)) (first_point j.to)
  joined row j = (let s = joins_shown row j in (of.edges j.from j.to s.0 s.1).1 j.leads)

  -- and each edge of the view is that of a row
  pub record HasRowFrom (u v : Vertex) : Type 0 where
    pub row : EdgeRow
    pub there : has_row e row ≡ true
    pub from : row.source ≡ placed.At (last_point u)
    pub to : row.target ≡ first_point v

  pub leads_row : (u v : Vertex) → Leads S u v → HasRowFrom u v
  leads_row u v l = record { row = row_of l.edge; there = (rows (row_of l.edge)).1 (edge_row S l.edge l.real); from = l.from; to = l.to }

  -- ---- out of a vertex

  module _ (v : Vertex) (is : IsShown S v) where
    pub out_there : (row : EdgeRow) → has_row e row ≡ true → row.source ≡ placed.At (last_point v) → Contains (g.outs (first_point v)) row.target
    out_there row there from =
        let other = λ (f : row.label ≡ label.Folder). not_hidden S lawful v is (last_point v) (lies_last S v is.vertex) ((folder_ends S lawful row ((rows row).0 there) f).0 (last_point v) from) in
        let j = row_joins row there other in
        let last : last_point j.from ≡ last_point v = at_is (last_point j.from) (last_point v) (sym j.source ∙ from) in
        let same : j.from ≡ v = same_last S set j.from v j.leads.source is.vertex last in
        same_member (g.outs (first_point v)) (sym j.target) (subst (λ (u : Vertex). Contains (g.outs (first_point u)) (first_point j.to)) same (joined row j))

    pub out_row : (q : Point) → Contains (g.outs (first_point v)) q → (w : Vertex) × IsShown S w × (first_point w ≡ q) × HasRowFrom v w
    out_row q m =
        let k = of.only q (whole.into (first_point v) q (of.all v is) m).0 in
        (k.0, k.1, k.2, leads_row v k.0 ((of.edges v k.0 is k.1).0 (same_member (g.outs (first_point v)) (sym k.2) m)))

    module _ (after : Option Point) where
      next_there : (target : Point) → IsNextTarget e (placed.At (last_point v)) after target → Some target ≡ next_above (g.outs (first_point v)) after
      next_there target k = sym (next_some (g.outs (first_point v)) after target (whole.outs_rise (first_point v) (of.all v is))
          (same_member (g.outs (first_point v)) k.to (out_there k.row k.there k.from)) k.above
          (λ r m a. (
          let o = out_row r m in
          let row = o.3 in
          let target_is : row.row.target ≡ r = row.to ∙ o.2 in
          subst (λ x. point_cmp x target ≢ Less) target_is (k.least row.row row.there row.from (subst (λ x. IsTrue (is_above after x)) (sym target_is) a)))))

      none_there : IsNoTarget e (placed.At (last_point v)) after → None ≡ next_above (g.outs (first_point v)) after
      none_there none = sym (next_none (g.outs (first_point v)) after (λ r m a. (
          let o = out_row r m in
          let row = o.3 in
          let target_is : row.row.target ≡ r = row.to ∙ o.2 in
          none row.row row.there row.from (subst (λ x. IsTrue (is_above after x)) (sym target_is) a))))

  pub next_is : (p q : Point) → shown.IsVertex g p → IsLastOf S p q → (after found : Option Point) →
      MatchOption found (IsNoTarget e (placed.At q) after) (λ target. IsNextTarget e (placed.At q) after target) → found ≡ next_above (g.outs p) after
  next_is p q is l after found m =
      let k = of.only p is in
      let last : q ≡ last_point k.0 = last_is S lawful g whole of p q is l ∙ ap g.last (sym k.2) ∙ of.last k.0 k.1 in
      subst (λ x. found ≡ next_above (g.outs x) after) k.2 (by k.0 k.1 found (subst (λ x. MatchOption found (IsNoTarget e (placed.At x) after) (λ target. IsNextTarget e (placed.At x) after target)) last m))
    where
      by : (v : Vertex) → IsShown S v → (found : Option Point) → MatchOption found (IsNoTarget e (placed.At (last_point v)) after) (λ target. IsNextTarget e (placed.At (last_point v)) after target) →
          found ≡ next_above (g.outs (first_point v)) after
      by v is None none = none_there v is after none
      by v is (Some target) k = next_there v is after target k

  -- ---- into a vertex

  module _ (v : Vertex) (is : IsShown S v) (text : v.kind ≡ vertex_kind.Text) where
    pub into_there : (row : EdgeRow) → has_row e row ≡ true → row.target ≡ first_point v → (u : Vertex) × IsShown S u × (row.source ≡ placed.At (last_point u)) × Contains (g.ins (first_point v)) (first_point u)
    into_there row there to =
        let other = λ (f : row.label ≡ label.Folder). not_other S lawful v is.vertex text (first_point v) (lies_first S v is.vertex)
        (subst (Stands S is_text false) to (folder_ends S lawful row ((rows row).0 there) f).1) in
        let j = row_joins row there other in
        let s = joins_shown row j in
        let same : first_point j.to ≡ first_point v = sym j.target ∙ to in
        let m : Contains (g.outs (first_point j.from)) (first_point v) = same_member (g.outs (first_point j.from)) same (joined row j) in
        (j.from, s.0, j.source, (whole.into (first_point j.from) (first_point v) (of.all j.from s.0) m).1)

    pub into_row : (q : Point) → Contains (g.ins (first_point v)) q → (u : Vertex) × IsShown S u × (first_point u ≡ q) × HasRowFrom u v
    into_row q m =
        let k = whole.out q (first_point v) (of.all v is) m in
        let w = of.only q k.0 in
        (w.0, w.1, w.2, leads_row w.0 v ((of.edges w.0 v w.1 is).0 (subst (λ x. Contains (g.outs x) (first_point v)) (sym w.2) k.1)))

    -- the last points of sources rise with their first ones
    first_below : (u w : Vertex) → IsShown S u → IsShown S w → point_cmp (first_point u) (first_point w) ≡ Less → point_cmp (last_point u) (last_point w) ≡ Less
    first_below u w a b h = before_last S one (first_point u) (last_point u) (shown_last S one u a) w b h

    module _ (after : Option Point) (above : Option Place) (bounds : AreBounds S after above) where
      -- a source is above the point where it is behind the place
      behind_above : (u : Vertex) → IsShown S u → IsBehind above (placed.At (last_point u)) → IsTrue (is_above after (first_point u))
      behind_above u a h = by after above bounds h
        where
          by : (after : Option Point) (above : Option Place) → AreBounds S after above → IsBehind above (placed.At (last_point u)) → IsTrue (is_above after (first_point u))
          by _ _ no_bound h = refl
          by _ _ (bound {x} {m} l) h = ap is_lt (last_before S one x m l u a h)

      above_behind : (u : Vertex) → IsShown S u → IsTrue (is_above after (first_point u)) → IsBehind above (placed.At (last_point u))
      above_behind u a h = by after above bounds h
        where
          less_is : (o : Ordering) → is_lt o ≡ true → o ≡ Less
          less_is Less h = refl
          less_is Equal h = absurd (cc)
          less_is Greater h = absurd (cc)

          by : (after : Option Point) (above : Option Place) → AreBounds S after above → IsTrue (is_above after (first_point u)) → IsBehind above (placed.At (last_point u))
          by _ _ no_bound h = tt
          by _ _ (bound {x} {m} l) h = before_last S one x m l u a (less_is (point_cmp x (first_point u)) h)

      prev_there : (source : Place) → IsNextSource e (first_point v) above source → (u : Vertex) × IsShown S u × (source ≡ placed.At (last_point u)) × (Some (first_point u) ≡ next_above (g.ins (first_point v)) after)
      prev_there source k =
          let i = into_there k.row k.there k.to in
          let u = i.0 in
          let from : source ≡ placed.At (last_point u) = sym k.from ∙ i.2 in (
            u,
            i.1,
            from,
            sym (next_some (g.ins (first_point v)) after (first_point u) (whole.ins_rise (first_point v) (of.all v is)) i.3
                (behind_above u i.1 (subst (IsBehind above) from k.above))
                (λ r m a less. (
                let o = into_row r m in
                let row = o.3 in
                let low : point_cmp (last_point o.0) (last_point u) ≡ Less = first_below o.0 u o.1 i.1 (subst (λ x. point_cmp x (first_point u) ≡ Less) (sym o.2) less) in
                let b : IsBehind above row.row.source = subst (IsBehind above) (sym row.from) (above_behind o.0 o.1 (subst (λ x. IsTrue (is_above after x)) (sym o.2) a)) in
                k.least row.row row.there row.to b (ap (λ x. place_cmp x source) row.from ∙ ap (place_cmp (placed.At (last_point o.0))) from ∙ low)))),
          )

      prev_none : IsNoSource e (first_point v) above → None ≡ next_above (g.ins (first_point v)) after
      prev_none none = sym (next_none (g.ins (first_point v)) after (λ r m a. (
          let o = into_row r m in
          let row = o.3 in
          none row.row row.there row.to (subst (IsBehind above) (sym row.from) (above_behind o.0 o.1 (subst (λ x. IsTrue (is_above after x)) (sym o.2) a))))))

  -- no edge leads to a point that no text has
  pub none_before : (p : Point) → shown.IsVertex g p → IsNoText S p → (after : Option Point) → None ≡ next_above (g.ins p) after
  none_before p is none after = sym (next_none (g.ins p) after (λ r m a. (
      let k = whole.out r p is m in
      let u = of.only r k.0 in
      let v = of.only p is in
      let l = (of.edges u.0 v.0 u.1 v.1).0 (subst (λ x. Contains (g.outs x) (first_point v.0)) (sym u.2) (same_member (g.outs r) (sym v.2) k.1)) in
      none v.0 v.1.vertex (leads_to_text S set u.0 v.0 l) (subst (λ x. LiesIn x v.0) v.2 (lies_first S v.0 v.1.vertex)))))

  -- and rows lead there from no vertex
  pub file_before : (p : Point) → IsNoText S p → (row : EdgeRow) → has_row e row ≡ true → row.target ≡ p → first_at g row.source ≡ None
  file_before p none row there to = by row.label refl
    where
      from_name : row.label ≡ label.Folder → (source : Place) → row.source ≡ source → first_at g source ≡ None
      from_name f placed.Root h = refl
      from_name f (placed.At q) h = first_none S lawful g whole of q (λ v is lies. not_hidden S lawful v is q lies ((folder_ends S lawful row ((rows row).0 there) f).0 q h))

      to_text : row.label ≢ label.Folder → ⊥
      to_text other =
          let j = row_joins row there other in
          none j.to j.leads.target (leads_to_text S set j.from j.to j.leads) (subst (λ x. LiesIn x j.to) (sym j.target ∙ to) (lies_first S j.to j.leads.target))

      by : (l : Label) → row.label ≡ l → first_at g row.source ≡ None
      by label.Block f = absurd (to_text (λ k. (let c : label.Block ≡ label.Folder = sym f ∙ k in cc)))
      by label.Folder f = from_name f row.source refl
      by label.Order f = absurd (to_text (λ k. (let c : label.Order ≡ label.Folder = sym f ∙ k in cc)))

  module _ (p : Point) (is : shown.IsVertex g p) (start end : ℕ) (t : IsTextFrom S p start end) (after : Option Point) (above : Option Place) (bounds : AreBounds S after above) where
    -- the vertex of text that begins at the point
    begins : first_point (text_vertex S p.change start end) ≡ p
    begins = same_Some (at_offset p.change start) p (sym (first_text S lawful g whole of p start end t) ∙ is)

    pub before_none : IsNoSource e p above → None ≡ next_above (g.ins p) after
    before_none none =
        subst (λ x. None ≡ next_above (g.ins x) after) begins
        (prev_none (text_vertex S p.change start end) (text_shown S p start end t) refl after above bounds (subst (λ x. IsNoSource e x above) (sym begins) none))

    pub before_some : (source : Place) → IsNextSource e p above source → (u : Vertex) × IsShown S u × (source ≡ placed.At (last_point u)) × (Some (first_point u) ≡ next_above (g.ins p) after)
    before_some source k =
        let h = prev_there (text_vertex S p.change start end) (text_shown S p start end t) refl after above bounds source (subst (λ x. IsNextSource e x above source) (sym begins) k) in
        (h.0, h.1, h.2, subst (λ x. Some (first_point h.0) ≡ next_above (g.ins x) after) begins h.3)

    -- and it has the source
    pub before_first : (source : Place) → (k : IsNextSource e p above source) → first_at g source ≡ Some (first_point (before_some source k).0)
    before_first source k =
        let h = before_some source k in
        ap (first_at g) h.2 ∙ first_there S lawful g whole of h.0 h.1 (last_point h.0) (lies_last S h.0 h.1.vertex)
