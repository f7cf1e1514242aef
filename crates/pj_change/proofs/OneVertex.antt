-- At most one vertex of a change begins at a position, and in a lawful set a position is in at most one vertex.
use Rattle.std.proofs.Common.{◌≡◌, ℕ, ◌-◌, ◌<◌, ◌≤◌, List, refl, sym, ◌∙◌, ap, subst, inl, inr, arith, true, false}
use Rattle.std.specs.Prelude.{Contains, Option, Some, None, slice_get}
use Rattle.std.proofs.lemmas.Bool.{cases_lt}
use Rattle.std.specs.declared.cmp.Ordering.TheVariants.{Equal}
use Rattle.pj_name.specs.declared.name.Name.{Name}
use Rattle.pj_change.specs.declared.point.Point.{Point}
use Rattle.pj_change.specs.declared.kind.Kind.{Kind}
use Rattle.pj_change.specs.declared.kind.Kind.TheVariants.{NameAt, FileInode, DirInode, Text}
use Rattle.pj_change.specs.declared.graph.VertexKind.{VertexKind}
use Rattle.pj_change.specs.declared.graph.VertexKind.TheVariants as vertex_kind
use Rattle.pj_change.specs.declared.graph.Status.{Status}
use Rattle.pj_change.specs.declared.graph.Status.TheVariants.{Alive}
use Rattle.pj_change.specs.declared.graph.Vertex.{Vertex}
use Rattle.pj_change.specs.declared.change.Record.{Record}
use Rattle.pj_change.specs.Positions.{kind_at}
use Rattle.pj_change.specs.Graph.{vertex_cmp}
use Rattle.pj_change.specs.GraphParts.{IsVertexOf}
use Rattle.pj_change.specs.Lawful.{IsLawfulSet}
use Rattle.pj_change.specs.Status.{status_of}
use Rattle.pj_change.specs.Vertices.{is_cut, IsRun, IsSingle, IsVertexBy, IsVertex, name_kind, first_point, last_point}
use Rattle.pj_change.proofs.EqualNames.{point_tied}
use Rattle.pj_change.proofs.LawfulLists.{one_record}
use Rattle.pj_change.proofs.Blocks.{block_at, block_starts}
use Rattle.pj_change.proofs.Statuses.{point}
use Rattle.pj_change.proofs.Without.{HaveOneRecord}

-- two records of one name in a lawful set are one
pub set_record : (S : List Record) → IsLawfulSet S → (r s : Record) → Contains S r → Contains S s → r.name ≡ s.name → r ≡ s
set_record S set r s m n e = one_record set.list set.lawful r s (set.same.back r m) (set.same.back s n) e

-- the position is in the vertex
pub record IsIn (v : Vertex) (at : ℕ) : Type 0 where
  pub low : v.start ≤ at
  pub high : at < v.end

vertex_ext : (u v : Vertex) → u.change ≡ v.change → u.start ≡ v.start → u.end ≡ v.end → u.kind ≡ v.kind → u.status ≡ v.status → u ≡ v
vertex_ext u v c s e k t = λ i. record { change = c i; start = s i; end = e i; kind = k i; status = t i }

-- what stands at the first position of a vertex stands at each of its positions
pub by_any : (S : List Record) (owner : Record) (v : Vertex) (at : ℕ) → IsIn v at → (k : Option Kind) → kind_at owner.change.hunks v.start ≡ k → IsVertexBy S owner v k → kind_at owner.change.hunks at ≡ k
by_any S owner v at i None e h = absurd h
by_any S owner v at i (Some (NameAt hunk)) e h = (let one = h.0 in let l = i.low in let u = i.high in let same : at ≡ v.start = omega arith in ap (kind_at owner.change.hunks) same ∙ e)
by_any S owner v at i (Some (FileInode hunk)) e h = (let one = h.0 in let l = i.low in let u = i.high in let same : at ≡ v.start = omega arith in ap (kind_at owner.change.hunks) same ∙ e)
by_any S owner v at i (Some (DirInode hunk)) e h = (let one = h.0 in let l = i.low in let u = i.high in let same : at ≡ v.start = omega arith in ap (kind_at owner.change.hunks) same ∙ e)
by_any S owner v at i (Some (Text hunk first past)) e h =
    let low = block_starts owner.change.hunks v.start hunk first past e in
    let inside = h.0.inside in
    let l = i.low in
    let u = i.high in
    block_at owner.change.hunks v.start hunk first past e at (omega arith) (omega arith)

-- a run of text with its status
abbrev IsTextRun : List Record → Vertex → ℕ → ℕ → Type 0
IsTextRun S v first past = IsRun S v first past × (v.kind ≡ vertex_kind.Text) × (v.status ≡ status_of S (first_point v))

-- no cut lies where one does
no_cut : (S : List Record) (c d : Name) (k : ℕ) → c ≡ d → is_cut S (point c k) ≡ true → is_cut S (point d k) ≡ false → ⊥
no_cut S c d k e t f = (let g : is_cut S (point d k) ≡ true = subst (λ c. is_cut S (point c k) ≡ true) e t in let h : true ≡ false = sym g ∙ f in cc)

module _ (S : List Record) (u v : Vertex) (change : u.change ≡ v.change) (at : ℕ) (in_u : IsIn u at) (in_v : IsIn v at) where
  single_one : (kind : VertexKind) (status : Vertex → Status) → ((a b : Vertex) → a.change ≡ b.change → a.start ≡ b.start → status a ≡ status b) →
      IsSingle u kind (status u) → IsSingle v kind (status v) → u ≡ v
  single_one kind status alike a b =
      let a_end = a.0 in
      let b_end = b.0 in
      let a_low = in_u.low in
      let a_high = in_u.high in
      let b_low = in_v.low in
      let b_high = in_v.high in
      let start : u.start ≡ v.start = omega arith in
      let end : u.end ≡ v.end = omega arith in
      vertex_ext u v change start end (a.1 ∙ sym b.1) (a.2 ∙ alike u v change start ∙ sym b.2)

  -- of two runs of a block that have a position in common, none begins later
  not_later : (x y : Vertex) → x.change ≡ y.change → IsIn x at → IsIn y at → (first past : ℕ) → first ≤ x.start → IsRun S x first past → IsRun S y first past → x.start < y.start → ⊥
  not_later x y e in_x in_y first past low a b later = elim b.from [
    | inl s ↦ omega arith
    | inr c ↦ (let h = in_y.low in let k = in_x.high in no_cut S y.change x.change y.start (sym e) c (a.uncut y.start later (omega arith)))
  ]

  -- and none ends earlier
  not_earlier : (x y : Vertex) → x.change ≡ y.change → IsIn x at → IsIn y at → (first past : ℕ) → IsRun S x first past → IsRun S y first past → x.end < y.end → ⊥
  not_earlier x y e in_x in_y first past a b earlier = elim a.upto [
    | inl s ↦ (let h = b.inside in omega arith)
    | inr c ↦ (let h = in_y.low in let k = in_x.high in no_cut S x.change y.change x.end e c (b.uncut x.end (omega arith) earlier))
  ]

  same_number : (m n : ℕ) → (m < n → ⊥) → (n < m → ⊥) → m ≡ n
  same_number m n f g = elim (cases_lt m n) [ inl l ↦ absurd (f l) | inr l ↦ elim (cases_lt n m) [ inl k ↦ absurd (g k) | inr k ↦ omega arith ] ]

  status_alike : (a b : Vertex) → a.change ≡ b.change → a.start ≡ b.start → status_of S (first_point a) ≡ status_of S (first_point b)
  status_alike a b c s = λ i. status_of S (record { change = c i; offset = s i })

  module _ (first past : ℕ) (u_low : first ≤ u.start) (v_low : first ≤ v.start) where
    run_one : IsTextRun S u first past → IsTextRun S v first past → u ≡ v
    run_one a b =
        let start : u.start ≡ v.start = same_number u.start v.start
        (not_later u v change in_u in_v first past u_low a.0 b.0) (not_later v u (sym change) in_v in_u first past v_low b.0 a.0) in
        let end : u.end ≡ v.end = same_number u.end v.end
        (not_earlier u v change in_u in_v first past a.0 b.0) (not_earlier v u (sym change) in_v in_u first past b.0 a.0) in
        vertex_ext u v change start end (a.1 ∙ sym b.1) (a.2 ∙ status_alike u v change start ∙ sym b.2)

  by_one : (owner : Record) (k : Option Kind) → kind_at owner.change.hunks u.start ≡ k → kind_at owner.change.hunks v.start ≡ k → IsVertexBy S owner u k → IsVertexBy S owner v k → u ≡ v
  by_one owner None d e a b = absurd a
  by_one owner (Some (NameAt hunk)) d e a b = single_one (name_kind (slice_get owner.change.hunks hunk)) (λ v. status_of S (first_point v)) status_alike a b
  by_one owner (Some (FileInode hunk)) d e a b = single_one vertex_kind.File (λ v. Alive) (λ a b c s. refl) a b
  by_one owner (Some (DirInode hunk)) d e a b = single_one vertex_kind.Dir (λ v. Alive) (λ a b c s. refl) a b
  by_one owner (Some (Text hunk first past)) d e a b =
      run_one first past (block_starts owner.change.hunks u.start hunk first past d) (block_starts owner.change.hunks v.start hunk first past e) a b

module _ (S : List Record) (unique : HaveOneRecord S) (u v : Vertex) (a : IsVertex S u) (b : IsVertex S v) where
  -- two vertices of a change that have a position in common are one, where records of one name are one
  pub one_vertex_of : u.change ≡ v.change → (at : ℕ) → IsIn u at → IsIn v at → u ≡ v
  one_vertex_of change at in_u in_v =
      let owner : a.owner ≡ b.owner = unique a.owner b.owner a.member b.member (a.name ∙ change ∙ sym b.name) in
      let hunks = a.owner.change.hunks in
      let here : kind_at hunks at ≡ kind_at hunks u.start = by_any S a.owner u at in_u (kind_at hunks u.start) refl a.is in
      let v_by : IsVertexBy S a.owner v (kind_at hunks v.start) = subst (λ (r : Record). IsVertexBy S r v (kind_at r.change.hunks v.start)) (sym owner) b.is in
      let there : kind_at hunks at ≡ kind_at hunks v.start = by_any S a.owner v at in_v (kind_at hunks v.start) refl v_by in
      let same : kind_at hunks v.start ≡ kind_at hunks u.start = sym there ∙ here in
      by_one S u v change at in_u in_v a.owner (kind_at hunks u.start) refl same a.is (subst (IsVertexBy S a.owner v) same v_by)

-- so it is in a lawful set
pub one_vertex : (S : List Record) → IsLawfulSet S → (u v : Vertex) → IsVertex S u → IsVertex S v → u.change ≡ v.change → (at : ℕ) → IsIn u at → IsIn v at → u ≡ v
one_vertex S set u v a b = one_vertex_of S (set_record S set) u v a b

nonempty_by : (S : List Record) (owner : Record) (v : Vertex) (k : Option Kind) → IsVertexBy S owner v k → v.start < v.end
nonempty_by S owner v None h = absurd h
nonempty_by S owner v (Some (NameAt hunk)) h = (let e = h.0 in omega arith)
nonempty_by S owner v (Some (FileInode hunk)) h = (let e = h.0 in omega arith)
nonempty_by S owner v (Some (DirInode hunk)) h = (let e = h.0 in omega arith)
nonempty_by S owner v (Some (Text hunk first past)) h = h.0.nonempty

pub nonempty : (S : List Record) (v : Vertex) → IsVertex S v → v.start < v.end
nonempty S v h = nonempty_by S h.owner v (kind_at h.owner.change.hunks v.start) h.is

-- two vertices of a change that begin at one position are one
pub one_of_owner : (S : List Record) (owner : Record) (u v : Vertex) → u.start ≡ v.start → IsVertexOf S owner u → IsVertexOf S owner v → u ≡ v
one_of_owner S owner u v start a b =
    let hunks = owner.change.hunks in
    let low = nonempty_by S owner u (kind_at hunks u.start) a.is in
    let high = nonempty_by S owner v (kind_at hunks v.start) b.is in
    let same : kind_at hunks v.start ≡ kind_at hunks u.start = ap (kind_at hunks) (sym start) in
    by_one S u v (sym a.name ∙ b.name) u.start (record { low = omega arith; high = low }) (record { low = omega arith; high = omega arith }) owner (kind_at hunks u.start) refl same
    a.is (subst (IsVertexBy S owner v) same b.is)

module _ (S : List Record) (set : IsLawfulSet S) (u v : Vertex) (a : IsVertex S u) (b : IsVertex S v) where
  -- vertices with the same first point are one
  pub same_first : first_point u ≡ first_point v → u ≡ v
  same_first e =
      let start : u.start ≡ v.start = ap (λ (p : Point). p.offset) e in
      let l = nonempty S u a in
      let k = nonempty S v b in
      one_vertex S set u v a b (ap (λ (p : Point). p.change) e) u.start (record { low = omega arith; high = l }) (record { low = omega arith; high = omega arith })

  -- so are vertices with the same last point
  pub same_last : last_point u ≡ last_point v → u ≡ v
  same_last e =
      let end : u.end - 1 ≡ v.end - 1 = ap (λ (p : Point). p.offset) e in
      let l = nonempty S u a in
      let k = nonempty S v b in
      one_vertex S set u v a b (ap (λ (p : Point). p.change) e) (u.end - 1) (record { low = omega arith; high = omega arith }) (record { low = omega arith; high = omega arith })

  -- so are vertices that the order does not tell apart
  pub vertices_tied : vertex_cmp u v ≡ Equal → u ≡ v
  vertices_tied e = same_first (point_tied (first_point u) (first_point v) e)
