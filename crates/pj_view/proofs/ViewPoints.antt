-- What a view of a lawful list says of a point, by the text and the inodes of files.
use Rattle.std.proofs.Common.{◌≡◌, ◌∙◌, sym, ap, subst, refl, ℕ, ◌+◌, ◌-◌, ◌<◌, ◌≤◌, Bool, true, false, List, Option, Some, None, inl, inr, arith}
use Rattle.std.specs.Prelude.{MatchOption, is_some, ◌⊎◌, slice_get}
use Rattle.std.specs.Ordering.{nat_cmp, ordering_then}
use Rattle.std.specs.declared.cmp.Ordering.{Ordering}
use Rattle.std.specs.declared.cmp.Ordering.TheVariants.{Less, Equal, Greater}
use Rattle.std.proofs.lemmas.Bool.{cases_lt}
use Rattle.std.proofs.lemmas.Bool.Decides.{nat_tests}
use Rattle.std.proofs.lemmas.Cmp.{tied_itself}
use Rattle.std.proofs.lemmas.Option.{same_Some}
use Rattle.pj_name.specs.Name.{name_cmp}
use Rattle.pj_name.proofs.Names.{name_cmp-total}
use Rattle.pj_change.specs.declared.point.Point.{Point}
use Rattle.pj_change.specs.declared.hunk.Hunk.{Hunk}
use Rattle.pj_change.specs.declared.hunk.Hunk.TheVariants.{File, Dir, NameOf, Insert, Order, Delete, Revive}
use Rattle.pj_change.specs.declared.kind.Kind.{Kind}
use Rattle.pj_change.specs.declared.kind.Kind.TheVariants.{NameAt, FileInode, DirInode, Text}
use Rattle.pj_change.specs.declared.graph.Status.TheVariants.{Alive, Dead}
use Rattle.pj_change.specs.declared.graph.Vertex.{Vertex}
use Rattle.pj_change.specs.declared.graph.VertexKind.TheVariants as vertex_kind
use Rattle.pj_change.specs.declared.change.Record.{Record}
use Rattle.pj_change.specs.Children.{IsInode}
use Rattle.pj_change.specs.Context.{is_file_inode}
use Rattle.pj_change.specs.Graph.{point_cmp}
use Rattle.pj_change.specs.Lawful.{IsLawful}
use Rattle.pj_change.specs.PointsIn.{LiesIn}
use Rattle.pj_change.specs.Positions.{kind_at}
use Rattle.pj_change.specs.Sets.{HaveOneText}
use Rattle.pj_change.specs.Status.{status_of}
use Rattle.pj_change.specs.Vertices.{IsVertex, IsVertexBy, name_kind, first_point, last_point}
use Rattle.pj_change.proofs.EqualNames.{name_tied}
use Rattle.pj_change.proofs.LawfulLists.{set_of}
use Rattle.pj_change.proofs.OneVertex.{nonempty, by_any}
use Rattle.pj_change.proofs.VertexOfPoint.{one_vertex_at, lawful_one_text}
use Rattle.pj_cuts.specs.Counted.{at_offset}
use Rattle.pj_dead.specs.PointGraphs.{PointGraph, IsWhole}
use Rattle.pj_dead.specs.PointGraphs as shown
use Rattle.pj_dead.specs.ViewOf.{IsShown, IsViewOf}
use Rattle.pj_outline.specs.Ends.{text_vertex}
use Rattle.pj_view.specs.Ends.{IsTextFrom, IsNoText, IsLastOf, of_text, of_none}

-- ---- the order of points

below_name : (p q : Point) → name_cmp p.change q.change ≡ Less → point_cmp p q ≡ Less
below_name p q e = ap (λ o. ordering_then o (nat_cmp p.offset q.offset)) e

below_offset : (p q : Point) → p.change ≡ q.change → p.offset < q.offset → point_cmp p q ≡ Less
below_offset p q e l =
    let tie : name_cmp p.change q.change ≡ Equal = subst (λ n. name_cmp p.change n ≡ Equal) e (tied_itself name_cmp-total p.change) in
    let low : nat_cmp p.offset q.offset ≡ Less = grind (arith, nat_tests) in
    ap (λ o. ordering_then o (nat_cmp p.offset q.offset)) tie ∙ low

-- the one is of a change before that of the other, or before it in its change
abbrev IsEarlier : Point → Point → Type 0
IsEarlier p q = (name_cmp p.change q.change ≡ Less) ⊎ ((p.change ≡ q.change) × (p.offset < q.offset))

below_is : (p q : Point) → point_cmp p q ≡ Less → IsEarlier p q
below_is p q h = by (name_cmp p.change q.change) refl h
  where
    low : nat_cmp p.offset q.offset ≡ Less → p.offset < q.offset
    low e = grind (arith, nat_tests)

    by : (o : Ordering) → name_cmp p.change q.change ≡ o → ordering_then o (nat_cmp p.offset q.offset) ≡ Less → IsEarlier p q
    by Less e k = inl e
    by Equal e k = inr (name_tied p.change q.change e, low k)
    by Greater e k = absurd (cc)

is_below : (p q : Point) → IsEarlier p q → point_cmp p q ≡ Less
is_below p q (inl e) = below_name p q e
is_below p q (inr k) = below_offset p q k.0 k.1

-- ---- the inodes of files

pub not_file : (o : Option Hunk) → name_kind o ≡ vertex_kind.File → ⊥
not_file None e = cc
not_file (Some (File parent name true)) e = cc
not_file (Some (File parent name false)) e = cc
not_file (Some (Dir parent name)) e = cc
not_file (Some (NameOf parent child name true)) e = cc
not_file (Some (NameOf parent child name false)) e = cc
not_file (Some (Insert file ups downs bytes)) e = cc
not_file (Some (Order file source target)) e = cc
not_file (Some (Delete owner start end by)) e = cc
not_file (Some (Revive owner start end by)) e = cc

-- the vertex of the inode of a file
abbrev pub file_vertex : Point → Vertex
file_vertex p = record { change = p.change; start = p.offset; end = p.offset + 1; kind = vertex_kind.File; status = Alive }

module _ (S : List Record) where
  pub file_there : (p : Point) → IsInode S p false → IsVertex S (file_vertex p)
  file_there p h = go (kind_at h.owner.change.hunks p.offset) refl h.is
    where
      go : (k : Option Kind) → kind_at h.owner.change.hunks p.offset ≡ k → is_file_inode k ≡ true → IsVertex S (file_vertex p)
      go None k is = absurd (cc)
      go (Some (NameAt hunk)) k is = absurd (cc)
      go (Some (FileInode hunk)) k is =
          record { owner = h.owner; member = h.member; name = h.name; is = subst (IsVertexBy S h.owner (file_vertex p)) (sym k) (refl, refl, refl) }
      go (Some (DirInode hunk)) k is = absurd (cc)
      go (Some (Text hunk first past)) k is = absurd (cc)

  -- a vertex that is the inode of a file has one point, at which that inode stands
  pub record IsAlone (v : Vertex) (p : Point) : Type 0 where
    pub inode : IsInode S p false
    pub size : v.end ≡ v.start + 1

  pub there_file : (v : Vertex) → IsVertex S v → v.kind ≡ vertex_kind.File → (p : Point) → LiesIn p v → IsAlone v p
  there_file v h file p lies = go (kind_at h.owner.change.hunks v.start) refl h.is
    where
      go : (k : Option Kind) → kind_at h.owner.change.hunks v.start ≡ k → IsVertexBy S h.owner v k → IsAlone v p
      go None k is = absurd is
      go (Some (NameAt hunk)) k is = absurd (not_file (slice_get h.owner.change.hunks hunk) (sym is.1 ∙ file))
      go (Some (FileInode hunk)) k is = record {
        inode = record {
          owner = h.owner;
          member = h.member;
          name = h.name ∙ lies.change;
          is = ap is_file_inode (by_any S h.owner v p.offset (record { low = lies.low; high = lies.high }) (Some (FileInode hunk)) k is);
        };
        size = is.0;
      }
      go (Some (DirInode hunk)) k is = absurd (let e : vertex_kind.Dir ≡ vertex_kind.File = sym is.1 ∙ file in cc)
      go (Some (Text hunk first past)) k is = absurd (let e : vertex_kind.Text ≡ vertex_kind.File = sym is.1 ∙ file in cc)

  -- ---- ends of vertices

  pub lies_first : (v : Vertex) → IsVertex S v → LiesIn (first_point v) v
  lies_first v h = record { change = refl; low = omega arith; high = nonempty S v h }

  pub lies_last : (v : Vertex) → IsVertex S v → LiesIn (last_point v) v
  lies_last v h = (let some = nonempty S v h in record { change = refl; low = omega arith; high = omega arith })

  -- the text that has a point lies round it
  pub text_lies : (p : Point) (start end : ℕ) → IsTextFrom S p start end → LiesIn p (text_vertex S p.change start end)
  text_lies p start end t = record { change = refl; low = t.from; high = t.upto }

  pub text_shown : (p : Point) (start end : ℕ) → IsTextFrom S p start end → IsShown S (text_vertex S p.change start end)
  text_shown p start end t = record { vertex = t.vertex; kind = inl refl }

  module _ (one : HaveOneText S) where
    -- the last point of what is shown
    pub shown_last : (u : Vertex) → IsShown S u → IsLastOf S (first_point u) (last_point u)
    shown_last u is = elim is.kind [ inl text ↦ by_text text | inr file ↦ by_file file ]
      where
        by_text : u.kind ≡ vertex_kind.Text → IsLastOf S (first_point u) (last_point u)
        by_text text =
            let v : Vertex = record { change = u.change; start = u.start; end = u.end; kind = vertex_kind.Text; status = u.status } in
            let same : u ≡ v = λ i. record { change = u.change; start = u.start; end = u.end; kind = text i; status = u.status } in
            of_text (record { vertex = status_is v (subst (IsVertex S) same is.vertex) refl; from = omega arith; upto = nonempty S u is.vertex })
          where
            status_is : (v : Vertex) → IsVertex S v → v.kind ≡ vertex_kind.Text → IsVertex S (text_vertex S v.change v.start v.end)
            status_is v h text = go (kind_at h.owner.change.hunks v.start) refl h.is
              where
                whole : v.status ≡ status_of S (first_point v) → IsVertex S (text_vertex S v.change v.start v.end)
                whole e = subst (IsVertex S) (λ i. record { change = v.change; start = v.start; end = v.end; kind = text i; status = e i }) h

                go : (k : Option Kind) → kind_at h.owner.change.hunks v.start ≡ k → IsVertexBy S h.owner v k → IsVertex S (text_vertex S v.change v.start v.end)
                go None k i = absurd i
                go (Some (NameAt hunk)) k i = whole i.2
                go (Some (FileInode hunk)) k i = absurd (let e : vertex_kind.File ≡ vertex_kind.Text = sym i.1 ∙ text in cc)
                go (Some (DirInode hunk)) k i = absurd (let e : vertex_kind.Dir ≡ vertex_kind.Text = sym i.1 ∙ text in cc)
                go (Some (Text hunk first past)) k i = whole i.2

        by_file : u.kind ≡ vertex_kind.File → IsLastOf S (first_point u) (last_point u)
        by_file file =
            let size = (there_file u is.vertex file (first_point u) (lies_first u is.vertex)).size in
            let offset : u.start ≡ u.end - 1 = omega arith in
            let same : first_point u ≡ last_point u = λ i. record { change = u.change; offset = offset i } in
            subst (IsLastOf S (first_point u)) same (of_none (λ v h text lies.
            let e = one_vertex_at S one (first_point u) v u h is.vertex lies (lies_first u is.vertex) in
            let k : vertex_kind.Text ≡ vertex_kind.File = sym text ∙ ap (λ (w : Vertex). w.kind) e ∙ file in
            cc))

    -- a point stands before what is shown exactly where the last point of its text stands before the last one of that
    pub before_last : (x m : Point) → IsLastOf S x m → (u : Vertex) → IsShown S u → point_cmp x (first_point u) ≡ Less → point_cmp m (last_point u) ≡ Less
    before_last x m l u is h = is_below m (last_point u) (by m l (below_is x (first_point u) h))
      where
        by : (m : Point) → IsLastOf S x m → IsEarlier x (first_point u) → IsEarlier m (last_point u)
        by _ (of_none none) (inl e) = inl e
        by _ (of_none none) (inr k) = (let l = k.1 in let some = nonempty S u is.vertex in inr (k.0, omega arith))
        by _ (of_text t) (inl e) = inl e
        by _ (of_text {start} {end} t) (inr k) = inr (k.0, ends k.0 k.1 (cases_lt end u.end))
          where
            ends : x.change ≡ u.change → x.offset < u.start → (end < u.end) ⊎ (u.end ≤ end) → end - 1 < u.end - 1
            ends c low (inl l) = (let up = t.upto in omega arith)
            ends c low (inr l) = absurd (
                let some = nonempty S u is.vertex in
                let from = t.from in
                let e = one_vertex_at S one (first_point u) (text_vertex S x.change start end) u t.vertex is.vertex
                (record { change = c; low = omega arith; high = omega arith }) (lies_first u is.vertex) in
                let s : start ≡ u.start = ap (λ (w : Vertex). w.start) e in
                omega arith)

    pub last_before : (x m : Point) → IsLastOf S x m → (u : Vertex) → IsShown S u → point_cmp m (last_point u) ≡ Less → point_cmp x (first_point u) ≡ Less
    last_before x m l u is h = is_below x (first_point u) (by m l (below_is m (last_point u) h))
      where
        none_low : IsNoText S x → x.change ≡ u.change → x.offset < u.end - 1 → (x.offset < u.start) ⊎ (u.start ≤ x.offset) → x.offset < u.start
        none_low none c l (inl k) = k
        none_low none c l (inr k) =
            let lies : LiesIn x u = record { change = sym c; low = k; high = omega arith } in
            elim is.kind [
              | inl text ↦ absurd (none u is.vertex text lies)
              | inr file ↦ (let size = (there_file u is.vertex file x lies).size in omega arith)
            ]

        text_low : (start end : ℕ) → IsTextFrom S x start end → x.change ≡ u.change → end - 1 < u.end - 1 → (x.offset < u.start) ⊎ (u.start ≤ x.offset) → x.offset < u.start
        text_low start end t c l (inl k) = k
        text_low start end t c l (inr k) = absurd (
            let up = t.upto in
            let e = one_vertex_at S one x (text_vertex S x.change start end) u t.vertex is.vertex (text_lies x start end t) (record { change = sym c; low = k; high = omega arith }) in
            let s : end ≡ u.end = ap (λ (w : Vertex). w.end) e in
            omega arith)

        by : (m : Point) → IsLastOf S x m → IsEarlier m (last_point u) → IsEarlier x (first_point u)
        by _ (of_none none) (inl e) = inl e
        by _ (of_none none) (inr k) = inr (k.0, none_low none k.0 k.1 (cases_lt x.offset u.start))
        by _ (of_text t) (inl e) = inl e
        by _ (of_text {start} {end} t) (inr k) = inr (k.0, text_low start end t k.0 k.1 (cases_lt x.offset u.start))

-- ---- views

-- some text has the point
pub record HasText (S : List Record) (p : Point) : Type 0 where
  pub start : ℕ
  pub end : ℕ
  pub is : IsTextFrom S p start end

module _ (S : List Record) (lawful : IsLawful S) (g : PointGraph) (whole : IsWhole g) (of : IsViewOf S g) where
  one : HaveOneText S
  one = lawful_one_text S (set_of S lawful)

  -- a point of what is shown
  pub first_there : (v : Vertex) → IsShown S v → (p : Point) → LiesIn p v → g.first p ≡ Some (first_point v)
  first_there v is p lies =
      let last : (g.last (first_point v)).offset ≡ v.end - 1 = ap (λ (q : Point). q.offset) (of.last v is) in
      let high = lies.high in
      (whole.ranges p (first_point v)).1 (of.all v is, record { change = sym lies.change; low = lies.low; high = omega (arith, last, high) })

  pub first_none : (p : Point) → ((v : Vertex) → IsShown S v → LiesIn p v → ⊥) → g.first p ≡ None
  first_none p none = by (g.first p) refl
    where
      by : (o : Option Point) → g.first p ≡ o → g.first p ≡ None
      by None e = e
      by (Some q) e = absurd (
          let k = (whole.ranges p q).0 e in
          let w = of.only q k.0 in
          let v = w.0 in
          let some = nonempty S v w.1.vertex in
          let start : v.start ≡ q.offset = ap (λ (r : Point). r.offset) w.2 in
          let last : (g.last q).offset ≡ v.end - 1 = ap (λ r. (g.last r).offset) (sym w.2) ∙ ap (λ (r : Point). r.offset) (of.last v w.1) in
          let low = k.1.low in
          let high = k.1.high in
          none v w.1 (record { change = ap (λ (r : Point). r.change) w.2 ∙ sym k.1.change; low = omega arith; high = omega (arith, last, high, some) }))

  pub first_text : (p : Point) (start end : ℕ) → IsTextFrom S p start end → g.first p ≡ Some (at_offset p.change start)
  first_text p start end t = first_there (text_vertex S p.change start end) (text_shown S p start end t) p (text_lies S p start end t)

  pub first_file : (p : Point) → IsInode S p false → g.first p ≡ Some p
  first_file p i = first_there (file_vertex p) (record { vertex = file_there S p i; kind = inr refl }) p (record { change = refl; low = omega arith; high = omega arith })

  pub first_other : (p : Point) → IsNoText S p → (IsInode S p false → ⊥) → g.first p ≡ None
  first_other p none other = first_none p (λ v is lies. elim is.kind [
    | inl text ↦ none v is.vertex text lies
    | inr file ↦ other (there_file S v is.vertex file p lies).inode
  ])

  -- the vertex that begins at a point, as text that has the point
  text_begins : (p : Point) (start end : ℕ) → shown.IsVertex g p → IsTextFrom S p start end → first_point (text_vertex S p.change start end) ≡ p
  text_begins p start end is t = same_Some (at_offset p.change start) p (sym (first_text p start end t) ∙ is)

  pub last_is : (p q : Point) → shown.IsVertex g p → IsLastOf S p q → q ≡ g.last p
  last_is p _ is (of_text {start} {end} t) =
      let v = text_vertex S p.change start end in
      sym (of.last v (text_shown S p start end t)) ∙ ap g.last (text_begins p start end is t)
  last_is p _ is (of_none none) =
      let w = of.only p is in
      elim w.1.kind [
        | inl text ↦ absurd (none w.0 w.1.vertex text (subst (λ q. LiesIn q w.0) w.2 (lies_first S w.0 w.1.vertex)))
        | inr file ↦ (
            let size = (there_file S w.0 w.1.vertex file (first_point w.0) (lies_first S w.0 w.1.vertex)).size in
            let offset : w.0.start ≡ w.0.end - 1 = omega arith in
            let same : first_point w.0 ≡ last_point w.0 = λ i. record { change = w.0.change; offset = offset i } in
            sym w.2 ∙ same ∙ sym (of.last w.0 w.1) ∙ ap g.last w.2)
      ]

  pub dead_none : (p : Point) → shown.IsVertex g p → IsNoText S p → g.dead p ≡ false
  dead_none p is none = by (g.dead p) refl
    where
      by : (b : Bool) → g.dead p ≡ b → g.dead p ≡ false
      by false e = e
      by true e = absurd (
          let w = of.only p is in
          let d = (of.dead w.0 w.1).0 (ap g.dead w.2 ∙ e) in
          none w.0 d.vertex d.text (subst (λ q. LiesIn q w.0) w.2 (lies_first S w.0 d.vertex)))

  module _ (p : Point) (start end : ℕ) (is : shown.IsVertex g p) (t : IsTextFrom S p start end) where
    status_is : (text_vertex S p.change start end).status ≡ status_of S p
    status_is = ap (status_of S) (text_begins p start end is t)

    pub dead_text : status_of S p ≡ Dead → g.dead p ≡ true
    dead_text e =
        let v = text_vertex S p.change start end in
        ap g.dead (sym (text_begins p start end is t)) ∙ (of.dead v (text_shown S p start end t)).1 (record { vertex = t.vertex; text = refl; dead = status_is ∙ e })

    pub live_text : (status_of S p ≡ Dead → ⊥) → g.dead p ≡ false
    live_text n = by (g.dead p) refl
      where
        by : (b : Bool) → g.dead p ≡ b → g.dead p ≡ false
        by false e = e
        by true e = absurd (
            let v = text_vertex S p.change start end in
            let d = (of.dead v (text_shown S p start end t)).0 (ap g.dead (text_begins p start end is t) ∙ e) in
            n (sym status_is ∙ d.dead))

  -- text has a vertex, or the inode of a file alone is one
  pub text_or_none : (p : Point) → shown.IsVertex g p → IsNoText S p ⊎ HasText S p
  text_or_none p is = (let w = of.only p is in subst (λ q. IsNoText S q ⊎ HasText S q) w.2 (by w.0 (last_point w.0) (shown_last S one w.0 w.1)))
    where
      by : (v : Vertex) (q : Point) → IsLastOf S (first_point v) q → IsNoText S (first_point v) ⊎ HasText S (first_point v)
      by v _ (of_text {start} {end} t) = inr (record { start = start; end = end; is = t })
      by v _ (of_none none) = inl none

  -- a vertex is live where its point is, and dead where that is dead and text has it
  pub live_vertex : (p : Point) → shown.IsVertex g p → (status_of S p ≡ Dead → ⊥) → g.dead p ≡ false
  live_vertex p is n = elim (text_or_none p is) [
    | inl none ↦ dead_none p is none
    | inr t ↦ live_text p t.start t.end is t.is n
  ]

  pub dead_where_text : (p : Point) (found : Option ℕ) → shown.IsVertex g p → status_of S p ≡ Dead → MatchOption found (IsNoText S p) (λ start. (end : ℕ) × IsTextFrom S p start end) → is_some found ≡ g.dead p
  dead_where_text p None is dead none = sym (dead_none p is none)
  dead_where_text p (Some start) is dead t = sym (dead_text p start t.0 is t.1 dead)
