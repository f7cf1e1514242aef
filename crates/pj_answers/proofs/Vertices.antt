-- The vertices of a set are finitely many.
use Rattle.std.proofs.Common.{◌≡◌, ℕ, suc, ◌+◌, ◌-◌, ◌<◌, List, [], ◌∷◌, refl, arith}
use Rattle.std.specs.Prelude.{Contains, Option, Some, None, sum_by}
use Rattle.pj_change.specs.declared.kind.Kind.{Kind}
use Rattle.pj_change.specs.declared.kind.Kind.TheVariants.{NameAt, FileInode, DirInode, Text}
use Rattle.pj_change.specs.declared.graph.VertexKind.{VertexKind}
use Rattle.pj_change.specs.declared.graph.VertexKind.TheVariants as vertex_kind
use Rattle.pj_change.specs.declared.graph.Status.{Status}
use Rattle.pj_change.specs.declared.graph.Status.TheVariants.{Alive, Dead, Zombie}
use Rattle.pj_change.specs.declared.graph.Vertex.{Vertex}
use Rattle.pj_change.specs.declared.change.Record.{Record}
use Rattle.pj_change.specs.Graph.{Lists, vertex_cmp}
use Rattle.pj_change.specs.Lawful.{IsLawfulSet}
use Rattle.pj_change.specs.Positions.{kind_at}
use Rattle.pj_change.specs.Rules.{position_count}
use Rattle.pj_change.specs.Vertices.{IsVertexBy, IsVertex}
use Rattle.pj_change.proofs.Blocks.{block_at, block_starts}
use Rattle.pj_change.proofs.KnownEdges.{known_vertex}
use Rattle.pj_change.proofs.OneVertex.{vertices_tied}
use Rattle.pj_change.proofs.Orders.{vertex_total}
use Rattle.pj_change.proofs.PositionLemmas.{kind_at_below}
use Rattle.pj_answers.proofs.Finite as finite

-- ---- all that may be one

-- each status
statuses : List Status
statuses = Alive ∷ Dead ∷ Zombie ∷ []

-- each kind
kinds : List VertexKind
kinds = vertex_kind.Name ∷ vertex_kind.ExecName ∷ vertex_kind.File ∷ vertex_kind.Dir ∷ vertex_kind.Text ∷ []

-- all of them are there
in_statuses : (s : Status) → Contains statuses s
unfolding statuses
in_statuses Alive = (0, omega arith, refl)
in_statuses Dead = (1, omega arith, refl)
in_statuses Zombie = (2, omega arith, refl)

-- all of them are there
in_kinds : (k : VertexKind) → Contains kinds k
unfolding kinds
in_kinds vertex_kind.Name = (0, omega arith, refl)
in_kinds vertex_kind.ExecName = (1, omega arith, refl)
in_kinds vertex_kind.File = (2, omega arith, refl)
in_kinds vertex_kind.Dir = (3, omega arith, refl)
in_kinds vertex_kind.Text = (4, omega arith, refl)

-- above all positions of a change
past_all : Record → ℕ
past_all owner = suc (sum_by position_count owner.change.hunks)

-- a vertex of a change
vertex : Record → ℕ → ℕ → VertexKind → Status → Vertex
vertex owner start end kind status = record { change = owner.name; start = start; end = end; kind = kind; status = status }

-- a vertex of these is such a one
abbrev HasParts : Record → ℕ → ℕ → Vertex → Type 0
HasParts owner start end v =
    (kind : VertexKind) × Contains kinds kind × ((status : Status) × Contains statuses status × (vertex owner start end kind status ≡ v))

-- a vertex between positions of the change
abbrev IsWithin : Record → Vertex → Type 0
IsWithin owner v = (start : ℕ) × (start < past_all owner) × ((end : ℕ) × (end < past_all owner) × HasParts owner start end v)

-- such vertices are finitely many
within : (owner : Record) → finite.Finite (IsWithin owner)
within owner =
    finite.below _ (past_all owner) (λ start.
    finite.below _ (past_all owner) (λ end.
    finite.some _ kinds (λ kind m.
    finite.some _ statuses (λ status n.
    finite.one _ (vertex owner start end kind status) refl (λ v e. e)))))

-- ---- where a vertex ends

-- it begins and ends within the change
record EndsBelow (owner : Record) (v : Vertex) : Type 0 where
  start : v.start < past_all owner
  end : v.end < past_all owner

-- a vertex of one position ends within the change
single_ends : (owner : Record) (v : Vertex) (kind : Kind) → kind_at owner.change.hunks v.start ≡ Some kind → v.end ≡ v.start + 1 → EndsBelow owner v
unfolding past_all
single_ends owner v kind e one = (let l = kind_at_below owner.change.hunks v.start kind e in record { start = omega arith; end = omega arith })

-- so does each vertex
ends_by : (S : List Record) (owner : Record) (v : Vertex) (k : Option Kind) → kind_at owner.change.hunks v.start ≡ k → IsVertexBy S owner v k →
    EndsBelow owner v
unfolding past_all
ends_by S owner v None e h = absurd h
ends_by S owner v (Some (NameAt hunk)) e h = single_ends owner v (NameAt hunk) e h.0
ends_by S owner v (Some (FileInode hunk)) e h = single_ends owner v (FileInode hunk) e h.0
ends_by S owner v (Some (DirInode hunk)) e h = single_ends owner v (DirInode hunk) e h.0
ends_by S owner v (Some (Text hunk first past)) e h =
    let hs = owner.change.hunks in
    let low = block_starts hs v.start hunk first past e in
    let some = h.0.nonempty in
    let inside = h.0.inside in
    let last = kind_at_below hs (past - 1) (Text hunk first past) (block_at hs v.start hunk first past e (past - 1) (omega arith) (omega arith)) in
    record { start = omega arith; end = omega arith }

-- so a vertex of a set is such a one of its owner
is_within : (S : List Record) (v : Vertex) (h : IsVertex S v) → IsWithin h.owner v
unfolding vertex
is_within S v h =
    let ends = ends_by S h.owner v (kind_at h.owner.change.hunks v.start) refl h.is in
    let same : vertex h.owner v.start v.end v.kind v.status ≡ v =
    λ i. record { change = h.name i; start = v.start; end = v.end; kind = v.kind; status = v.status } in
    (v.start, ends.start, (v.end, ends.end, (v.kind, in_kinds v.kind, (v.status, in_statuses v.status, same))))

-- ---- those of the set

-- the vertices of the set are finitely many
pub vertices : (S : List Record) → finite.Finite (IsVertex S)
vertices S =
    finite.alike (λ v. ((owner : Record) × Contains S owner × IsWithin owner v) × IsVertex S v) (IsVertex S) (λ v h. h.1)
    (λ v h. ((h.owner, h.member, is_within S v h), h))
    (finite.known_ones (λ v. (owner : Record) × Contains S owner × IsWithin owner v) (IsVertex S) (finite.some IsWithin S (λ owner m. within owner))
    (λ v h. known_vertex S v))

-- in order
pub vertex_list : (S : List Record) → IsLawfulSet S → (list : List Vertex) × Lists vertex_cmp (IsVertex S) list
vertex_list S set = finite.listed vertex_cmp vertex_total (IsVertex S) (vertices S) (λ u v a b e. vertices_tied S set u v a b e)
