-- The vertices of a set, gathered position by position and change by change.
use Rattle.std.proofs.Common.{◌≡◌, ℕ, ◌+◌, ◌<◌, List, [], ◌∷◌, ◌++◌, length, refl, sym, ◌∙◌, ap, inl, inr, arith}
use Rattle.std.specs.Prelude.{Contains, ◌⊎◌, Option, Some, None, sum_by}
use Rattle.std.proofs.Math.Seq.{take-length}
use Rattle.pj_change.specs.declared.kind.Kind.{Kind}
use Rattle.pj_change.specs.declared.graph.Vertex.{Vertex}
use Rattle.pj_change.specs.declared.change.Record.{Record}
use Rattle.pj_change.specs.Gathers.{Gathers, IsOfOne}
use Rattle.pj_change.specs.Graph.{vertex_cmp, Lists}
use Rattle.pj_change.specs.GraphParts.{IsVertexOf}
use Rattle.pj_change.specs.Positions.{kind_at, place}
use Rattle.pj_change.specs.Rules.{position_count}
use Rattle.pj_change.specs.Vertices.{IsVertexBy, IsVertex}
use Rattle.pj_change.proofs.Gathering.{gathers_one, gathers_both, gathers_alike, gathered}
use Rattle.pj_change.proofs.Listings.{same_listing}
use Rattle.pj_change.proofs.OneVertex.{one_of_owner}
use Rattle.pj_change.proofs.PositionLemmas.{kind_at_below}

-- ---- the set and its changes

pub of_owner : (S : List Record) (v : Vertex) (h : IsVertex S v) → IsVertexOf S h.owner v
of_owner S v h = record { name = h.name; is = h.is }

pub of_set : (S : List Record) (owner : Record) (v : Vertex) → Contains S owner → IsVertexOf S owner v → IsVertex S v
of_set S owner v m h = record { owner = owner; member = m; name = h.name; is = h.is }

-- ---- the vertices that begin below a position

module _ (S : List Record) (owner : Record) where
  abbrev pub IsBelow : ℕ → Vertex → Type 0
  IsBelow n v = (v.start < n) × IsVertexOf S owner v

  split_below : (n : ℕ) (v : Vertex) → IsBelow (n + 1) v → IsBelow n v ⊎ ((v.start ≡ n) × IsVertexOf S owner v)
  split_below n v (low, is) = elim (cases v.start n low) [ inl l ↦ inl (l, is) | inr e ↦ inr (e, is) ]
    where
      cases : (m n : ℕ) → m < n + 1 → (m < n) ⊎ (m ≡ n)
      cases m n l = grind (arith)

  pub below_same : (n : ℕ) (old new : List Vertex) → ((v : Vertex) → v.start ≡ n → IsVertexOf S owner v → ⊥) → Gathers (IsBelow n) old new → Gathers (IsBelow (n + 1)) old new
  below_same n old new none a = gathers_alike (IsBelow n) (IsBelow (n + 1)) old new (λ v h. (let l = h.0 in omega arith, h.1)) back a
    where
      back : (v : Vertex) → IsBelow (n + 1) v → IsBelow n v
      back v h = elim (split_below n v h) [ inl k ↦ k | inr k ↦ absurd (none v k.0 k.1) ]

  pub below_more : (n : ℕ) (one : Vertex) (old middle new : List Vertex) → one.start ≡ n → IsVertexOf S owner one → new ≡ middle ++ one ∷ [] → Gathers (IsBelow n) old middle → Gathers (IsBelow (n + 1)) old new
  below_more n one old middle new at is e a =
      gathers_both (IsBelow n) Here (IsBelow (n + 1)) old middle new (split_below n) (λ v h. (let l = h.0 in omega arith, h.1)) (λ v h. (let l = h.0 in omega arith, h.1)) a
      (gathers_one Here one middle new e (at, is) (λ v h. one_of_owner S owner v one (h.0 ∙ sym at) h.1 is))
    where
      Here : Vertex → Type 0
      Here v = (v.start ≡ n) × IsVertexOf S owner v

  -- none begins at the number of position_count or above
  pub below_all : (n : ℕ) (old new : List Vertex) → n ≡ place owner.change.hunks (length owner.change.hunks) → Gathers (IsBelow n) old new → Gathers (IsVertexOf S owner) old new
  below_all n old new e a = gathers_alike (IsBelow n) (IsVertexOf S owner) old new (λ v h. h.1) (λ v h. (low v h, h)) a
    where
      whole : n ≡ sum_by position_count owner.change.hunks
      whole = e ∙ ap (sum_by position_count) (take-length owner.change.hunks)

      by : (v : Vertex) (k : Option Kind) → kind_at owner.change.hunks v.start ≡ k → IsVertexBy S owner v k → v.start < n
      by v None f h = absurd h
      by v (Some kind) f h = omega (arith, kind_at_below owner.change.hunks v.start kind f, whole)

      low : (v : Vertex) → IsVertexOf S owner v → v.start < n
      low v h = by v (kind_at owner.change.hunks v.start) refl h.is

-- ---- the vertices of the set

-- those of all its changes
pub vertices_gathered : (S : List Record) (new : List Vertex) → Gathers (IsOfOne (IsVertexOf S) S) [] new → Gathers (IsVertex S) [] new
vertices_gathered S new a =
    gathers_alike (IsOfOne (IsVertexOf S) S) (IsVertex S) [] new
    (λ v h. of_set S h.one v h.member h.is) (λ v h. record { one = h.owner; member = h.member; is = of_owner S v h }) a

-- and are listed
pub vertices_listed : (S : List Record) (new list : List Vertex) → Gathers (IsVertex S) [] new → Lists vertex_cmp (Contains new) list → Lists vertex_cmp (IsVertex S) list
vertices_listed S new list a = same_listing vertex_cmp (Contains new) (IsVertex S) (gathered (IsVertex S) new a) a.all list
