-- The rows of a view of a lawful set are the pseudo rows of the set.
use Rattle.std.proofs.Common.{◌≡◌, ◌+◌, ◌-◌, refl, sym, ap, ◌∙◌, subst, inl, inr, true, false, arith, List}
use Rattle.std.specs.Prelude.{Contains, ◌⊎◌, Option, Some, None}
use Rattle.pj_change.specs.declared.point.Point.{Point}
use Rattle.pj_change.specs.declared.kind.Kind.{Kind}
use Rattle.pj_change.specs.declared.kind.Kind.TheVariants.{NameAt, FileInode, DirInode, Text}
use Rattle.pj_change.specs.declared.graph.VertexKind.TheVariants as vertex_kind
use Rattle.pj_change.specs.declared.graph.Vertex.{Vertex}
use Rattle.pj_change.specs.declared.change.Record.{Record}
use Rattle.pj_change.specs.Positions.{kind_at}
use Rattle.pj_change.specs.Context.{is_file_inode}
use Rattle.pj_change.specs.Lawful.{IsLawfulSet}
use Rattle.pj_change.specs.Vertices.{IsVertex, IsVertexBy, first_point, last_point}
use Rattle.pj_change.specs.Graph.{point_cmp, vertex_cmp}
use Rattle.pj_change.specs.Before.{Leads, IsDeadText, IsLiveText}
use Rattle.pj_change.specs.DeadSets.{IsRowAcross}
use Rattle.pj_change.specs.PseudoRows.{IsLive, IsPseudoRow}
use Rattle.pj_change.proofs.PathsAcross.{true_or_false}
use Rattle.pj_change.proofs.DeadPaths.{start_dead}
use Rattle.pj_change.proofs.CarriedSets.{Carries, flipped, row_carried}
use Rattle.pj_change.proofs.OneVertex.{set_record}
use Rattle.pj_change.proofs.FileEdges.{IsFilePoint, IsInodePoint, HasText, file_text, edge_ends, leads_to_text}
use Rattle.pj_dead.specs.declared.row.PseudoRow.{PseudoRow}
use Rattle.pj_dead.specs.PointGraphs.{PointGraph, IsEdge, IsDead, IsWhole}
use Rattle.pj_dead.specs.PointGraphs as shown
use Rattle.pj_dead.specs.DeadRows.{IsRow, LeadsAcross}
use Rattle.pj_dead.specs.ViewOf.{IsShown, IsViewOf}
use Rattle.pj_dead.specs.Laws.{RowsArePseudoRows}

-- ---- where edges come from

module _ (S : List Record) (set : IsLawfulSet S) (u : Vertex) (h : IsVertex S u) (alone : u.end ≡ u.start + 1) where
  last_is_first : u.end - 1 ≡ u.start
  last_is_first = omega (arith, alone)

  text_at : (file : _) → IsFilePoint S file (last_point u) → HasText h.owner u.start
  text_at file a =
      let same : a.owner ≡ h.owner = set_record S set a.owner h.owner a.member h.member (a.name ∙ sym h.name) in
      subst (λ (r : Record). HasText r u.start) same (subst (HasText a.owner) last_is_first (file_text a.owner (u.end - 1) file a.of_file))

  inode_at : IsInodePoint S (last_point u) → is_file_inode (kind_at h.owner.change.hunks u.start) ≡ true
  inode_at a =
      let same : a.owner ≡ h.owner = set_record S set a.owner h.owner a.member h.member (a.name ∙ sym h.name) in
      subst (λ (r : Record). is_file_inode (kind_at r.change.hunks u.start) ≡ true) same (subst (λ k. is_file_inode (kind_at a.owner.change.hunks k) ≡ true) last_is_first a.inode)

-- a block or order edge leads from text, or from the inode of a file
pub leads_from : (S : List Record) → IsLawfulSet S → (u v : Vertex) → Leads S u v → (u.kind ≡ vertex_kind.Text) ⊎ (u.kind ≡ vertex_kind.File)
leads_from S set u v l = by (kind_at h.owner.change.hunks u.start) refl h.is
  where
    h : IsVertex S u
    h = l.source

    ends : IsFilePoint S (edge_ends S set u v l).file (last_point u) ⊎ IsInodePoint S (last_point u)
    ends = (edge_ends S set u v l).source (last_point u) l.from

    neither : (kind : Kind) → kind_at h.owner.change.hunks u.start ≡ Some kind → u.end ≡ u.start + 1 → ((hunk first past : _) → kind ≡ Text hunk first past → ⊥) → is_file_inode (Some kind) ≡ false → ⊥
    neither kind e alone other not_inode = elim ends [
      | inl a ↦ (let t = text_at S set u h alone (edge_ends S set u v l).file a in let f : Some kind ≡ Some (Text t.hunk t.start t.past) = sym e ∙ t.is in other t.hunk t.start t.past (cc))
      | inr a ↦ (let t : is_file_inode (Some kind) ≡ true = sym (ap is_file_inode e) ∙ inode_at S set u h alone a in cc)
    ]

    by : (found : Option Kind) → kind_at h.owner.change.hunks u.start ≡ found → IsVertexBy S h.owner u found → (u.kind ≡ vertex_kind.Text) ⊎ (u.kind ≡ vertex_kind.File)
    by None e is = absurd is
    by (Some (NameAt hunk)) e is = absurd (neither (NameAt hunk) e is.0 (λ k f p s. cc) refl)
    by (Some (FileInode hunk)) e is = inr is.1
    by (Some (DirInode hunk)) e is = absurd (neither (DirInode hunk) e is.0 (λ k f p s. cc) refl)
    by (Some (Text hunk first past)) e is = inl is.1

-- ---- what stands for what

module _ (S : List Record) (g : PointGraph) (set : IsLawfulSet S) (whole : IsWhole g) (of : IsViewOf S g) where
  -- a vertex of S stands for its first point
  abbrev pub StandsFor : Vertex → Point → Type 0
  StandsFor v p = IsShown S v × (first_point v ≡ p)

  dead_shown : (v : Vertex) → IsDeadText S v → IsShown S v
  dead_shown v d = record { vertex = d.vertex; kind = inl d.text }

  vertex_there : (v : Vertex) (p : Point) → StandsFor v p → shown.IsVertex g p
  vertex_there v p i = subst (shown.IsVertex g) i.1 (of.all v i.0)

  dead_there : (v : Vertex) (p : Point) → StandsFor v p → IsDeadText S v → IsDead g p
  dead_there v p i d = record { vertex = vertex_there v p i; dead = ap g.dead (sym i.1) ∙ (of.dead v i.0).1 d }

  dead_again : (p : Point) (v : Vertex) → StandsFor v p → IsDead g p → IsDeadText S v
  dead_again p v i d = (of.dead v i.0).0 (ap g.dead i.1 ∙ d.dead)

  edge_there : (u v : Vertex) (p q : Point) → StandsFor u p → StandsFor v q → Leads S u v → IsEdge g p q
  edge_there u v p q i j l = record {
    source = vertex_there u p i;
    out = subst (λ x. Contains (g.outs x) q) i.1 (subst (Contains (g.outs (first_point u))) j.1 ((of.edges u v i.0 j.0).1 l));
  }

  edge_again : (u v : Vertex) (p q : Point) → StandsFor u p → StandsFor v q → IsEdge g p q → Leads S u v
  edge_again u v p q i j e = (of.edges u v i.0 j.0).0 (subst (Contains (g.outs (first_point u))) (sym j.1) (subst (λ x. Contains (g.outs x) q) (sym i.1) e.out))

  target_shown : (u v : Vertex) → Leads S u v → IsShown S v
  target_shown u v l = record { vertex = l.target; kind = inl (leads_to_text S set u v l) }

  source_shown : (u v : Vertex) → Leads S u v → IsShown S u
  source_shown u v l = record { vertex = l.source; kind = leads_from S set u v l }

  there : Carries StandsFor (Leads S) (IsDeadText S) (IsEdge g) (IsDead g)
  there = record {
    dead = dead_there;
    ahead = λ u v p i d l. (let j : StandsFor v (first_point v) = (target_shown u v l, refl) in (first_point v, j, edge_there u v p (first_point v) i j l));
    back = λ u v q j d l. (let i : StandsFor u (first_point u) = (source_shown u v l, refl) in (first_point u, i, edge_there u v (first_point u) q i j l));
  }

  again : Carries (flipped StandsFor) (IsEdge g) (IsDead g) (Leads S) (IsDeadText S)
  again = record {
    dead = dead_again;
    ahead = λ p q u i d e.
        let k = of.only q (whole.into p q e.source e.out).0 in
        let j : StandsFor k.0 q = (k.1, k.2) in
        (k.0, j, edge_again u k.0 p q i j e);
    back = λ p q v j d e.
        let k = of.only p e.source in
        let i : StandsFor k.0 p = (k.1, k.2) in
        (k.0, i, edge_again k.0 v p q i j e);
  }

  same_order : (u v : Vertex) (p q : Point) → StandsFor u p → StandsFor v q → vertex_cmp u v ≡ point_cmp p q
  same_order u v p q i j = λ k. point_cmp (i.1 k) (j.1 k)

  -- ---- what may begin and end a row

  not_dead : (v : Vertex) (p : Point) → StandsFor v p → (IsDeadText S v → ⊥) → shown.IsLive g p
  not_dead v p i n = elim (true_or_false (g.dead p)) [
    | inl d ↦ absurd (n (dead_again p v i (record { vertex = vertex_there v p i; dead = d })))
    | inr l ↦ record { vertex = vertex_there v p i; live = l }
  ]

  live_text : (v : Vertex) (p : Point) → StandsFor v p → v.kind ≡ vertex_kind.Text → shown.IsLive g p → IsLiveText S v
  live_text v p i text l = record { vertex = i.0.vertex; text = text; live = λ e. (let d = dead_there v p i (record { vertex = i.0.vertex; text = text; dead = e }) in let f : true ≡ false = sym d.dead ∙ l.live in cc) }

  source_there : (v : Vertex) (p : Point) → StandsFor v p → IsLive S v → shown.IsLive g p
  source_there v p i (inl t) = not_dead v p i (λ d. t.live d.dead)
  source_there v p i (inr f) = not_dead v p i (λ d. (let e : vertex_kind.File ≡ vertex_kind.Text = sym f.1 ∙ d.text in cc))

  target_there : (v : Vertex) (p : Point) → StandsFor v p → IsLiveText S v → shown.IsLive g p
  target_there v p i t = not_dead v p i (λ d. t.live d.dead)

  source_again : (p : Point) (v : Vertex) → StandsFor v p → shown.IsLive g p → IsLive S v
  source_again p v i l = elim i.0.kind [ inl text ↦ inl (live_text v p i text l) | inr file ↦ inr (i.0.vertex, file) ]

  -- a live vertex to which an edge leads
  abbrev pub IsTarget : Point → Type 0
  IsTarget p = shown.IsLive g p × ((x : Point) × IsEdge g x p)

  target_again : (p : Point) (v : Vertex) → StandsFor v p → IsTarget p → IsLiveText S v
  target_again p v i t =
      let k = of.only t.1.0 t.1.1.source in
      live_text v p i (leads_to_text S set k.0 v (edge_again k.0 v t.1.0 p (k.1, k.2) i t.1.1)) t.0

  last_there : (v : Vertex) (p : Point) → StandsFor v p → last_point v ≡ g.last p
  last_there v p i = sym (of.last v i.0) ∙ ap g.last i.1

  -- ---- rows

  pub row_there : (least source target : Point) → IsPseudoRow S least source target → IsRowAcross (LeadsAcross g) (shown.IsLive g) (shown.IsLive g) (λ v. v) g.last least source target
  row_there least source target r =
      row_carried StandsFor (Leads S) (IsDeadText S) (IsEdge g) (IsDead g) there again vertex_cmp point_cmp same_order
      (IsLive S) (IsLiveText S) (shown.IsLive g) (shown.IsLive g) first_point last_point (λ v. v) g.last source_there target_there
      (λ u p i. i.1) last_there r (first_point r.across.first) (dead_shown r.across.first (start_dead r.across.dead), refl)

  pub row_again : (row : PseudoRow) → IsRow g row → IsPseudoRow S row.least row.source row.target
  row_again row r =
      let k = of.only r.across.first (start_dead r.across.dead).vertex in
      let t : IsRowAcross (LeadsAcross g) (shown.IsLive g) IsTarget (λ v. v) g.last row.least row.source row.target = record {
        lowest = r.lowest;
        from = r.from;
        to = r.to;
        from_source = r.from_source;
        to_target = (r.to_target, (r.across.last, r.across.leaves));
        across = r.across;
        least_is = r.least_is;
        source_is = r.source_is;
        target_is = r.target_is;
      } in
      row_carried (flipped StandsFor) (IsEdge g) (IsDead g) (Leads S) (IsDeadText S) again there point_cmp vertex_cmp (λ p q u v i j. sym (same_order u v p q i j))
      (shown.IsLive g) IsTarget (IsLive S) (IsLiveText S) (λ v. v) g.last first_point last_point source_again target_again
      (λ p v i. sym i.1) (λ p v i. sym (last_there v p i)) t k.0 (k.1, k.2)

pub rows_are : RowsArePseudoRows
rows_are S g set whole of row = (row_again S g set whole of row, row_there S g set whole of row.least row.source row.target)
