-- The dead text of a set is among the vertices of a list.
use Rattle.std.proofs.Common.{◌≡◌, ℕ, zero, suc, ◌+◌, ◌-◌, ◌<◌, List, [], ◌∷◌, ◌++◌, refl, sym, ap, subst, inl, inr, arith}
use Rattle.std.specs.Prelude.{Contains, Option, Some, None, sum_by}
use Rattle.std.proofs.lemmas.Bool.{cases_lt}
use Rattle.pj_change.specs.declared.kind.Kind.{Kind}
use Rattle.pj_change.specs.declared.kind.Kind.TheVariants.{NameAt, FileInode, DirInode, Text}
use Rattle.pj_change.specs.declared.graph.VertexKind.TheVariants as vertex_kind
use Rattle.pj_change.specs.declared.graph.Status.TheVariants.{Dead}
use Rattle.pj_change.specs.declared.graph.Vertex.{Vertex}
use Rattle.pj_change.specs.declared.change.Record.{Record}
use Rattle.pj_change.specs.Rules.{position_count}
use Rattle.pj_change.specs.Positions.{kind_at}
use Rattle.pj_change.specs.Vertices.{IsVertexBy}
use Rattle.pj_change.specs.Before.{IsDeadText}
use Rattle.pj_change.proofs.Members.{first_member, later_member, no_member, uncons, same_member}
use Rattle.pj_change.proofs.LawfulLists.{first_part, second_part}
use Rattle.pj_change.proofs.Blocks.{block_at, block_starts}
use Rattle.pj_change.proofs.PositionLemmas.{kind_at_below}

-- ---- the list

-- a dead vertex of text
abbrev dead_at : Record → ℕ → ℕ → Vertex
dead_at r start end = record { change = r.name; start = start; end = end; kind = vertex_kind.Text; status = Dead }

-- those that begin there and end below n
ending : Record → ℕ → ℕ → List Vertex
ending r start zero = []
ending r start (suc n) = dead_at r start n ∷ ending r start n

-- those that begin below n and end below past
beginning : Record → ℕ → ℕ → List Vertex
beginning r past zero = []
beginning r past (suc n) = ending r n past ++ beginning r past n

pub all_texts : List Record → List Vertex
all_texts [] = []
all_texts (r ∷ S) = beginning r (suc (sum_by position_count r.change.hunks)) (suc (sum_by position_count r.change.hunks)) ++ all_texts S

in_ending : (r : Record) (start n end : ℕ) → end < n → Contains (ending r start n) (dead_at r start end)
unfolding ending
in_ending r start zero end l = absurd (omega (arith, l))
in_ending r start (suc n) end l = elim (cases_lt end n) [
  | inl k ↦ later_member (dead_at r start n) (ending r start n) (dead_at r start end) (in_ending r start n end k)
  | inr k ↦ (let e : n ≡ end = omega arith in same_member (dead_at r start n ∷ ending r start n) (ap (dead_at r start) e) (first_member (dead_at r start n) (ending r start n)))
]

in_beginning : (r : Record) (past n start end : ℕ) → end < past → start < n → Contains (beginning r past n) (dead_at r start end)
unfolding beginning
in_beginning r past zero start end l k = absurd (omega (arith, k))
in_beginning r past (suc n) start end l k = elim (cases_lt start n) [
  | inl h ↦ second_part (ending r n past) (beginning r past n) (dead_at r start end) (in_beginning r past n start end l h)
  | inr h ↦ (let e : n ≡ start = omega arith in
      first_part (ending r n past) (beginning r past n) (dead_at r start end) (subst (λ s. Contains (ending r n past) (dead_at r s end)) e (in_ending r n past end l)))
]

in_texts : (S : List Record) (r : Record) → Contains S r → (start end : ℕ) → end < suc (sum_by position_count r.change.hunks) → start < suc (sum_by position_count r.change.hunks) →
    Contains (all_texts S) (dead_at r start end)
unfolding all_texts
in_texts [] r m start end l k = absurd (no_member r m)
in_texts (s ∷ S) r m start end l k = elim (uncons s S r m) [
  | inl e ↦ first_part (beginning s (suc (sum_by position_count s.change.hunks)) (suc (sum_by position_count s.change.hunks))) (all_texts S) (dead_at r start end)
      (subst (λ (q : Record). Contains (beginning q (suc (sum_by position_count q.change.hunks)) (suc (sum_by position_count q.change.hunks))) (dead_at r start end)) (sym e)
      (in_beginning r (suc (sum_by position_count r.change.hunks)) (suc (sum_by position_count r.change.hunks)) start end l k))
  | inr n ↦ second_part (beginning s (suc (sum_by position_count s.change.hunks)) (suc (sum_by position_count s.change.hunks))) (all_texts S) (dead_at r start end) (in_texts S r n start end l k)
]

-- ---- all dead text is in it

-- where a vertex ends
record EndsBelow (owner : Record) (v : Vertex) : Type 0 where
  start : v.start < suc (sum_by position_count owner.change.hunks)
  end : v.end < suc (sum_by position_count owner.change.hunks)

single_ends : (owner : Record) (v : Vertex) (kind : Kind) → kind_at owner.change.hunks v.start ≡ Some kind → v.end ≡ v.start + 1 → EndsBelow owner v
single_ends owner v kind e one = (let l = kind_at_below owner.change.hunks v.start kind e in record { start = omega arith; end = omega arith })

ends_by : (S : List Record) (owner : Record) (v : Vertex) (k : Option Kind) → kind_at owner.change.hunks v.start ≡ k → IsVertexBy S owner v k → EndsBelow owner v
ends_by S owner v None e h = absurd h
ends_by S owner v (Some (NameAt hunk)) e h = single_ends owner v (NameAt hunk) e h.0
ends_by S owner v (Some (FileInode hunk)) e h = single_ends owner v (FileInode hunk) e h.0
ends_by S owner v (Some (DirInode hunk)) e h = single_ends owner v (DirInode hunk) e h.0
ends_by S owner v (Some (Text hunk first past)) e h =
    let hs = owner.change.hunks in
    let low = block_starts hs v.start hunk first past e in
    let some = h.0.nonempty in
    let inside = h.0.inside in
    let last = kind_at_below hs (past - 1) (Text hunk first past) (block_at hs v.start hunk first past e (past - 1) (omega arith) (omega arith)) in
    record { start = omega arith; end = omega arith }

pub dead_listed : (S : List Record) (v : Vertex) → IsDeadText S v → Contains (all_texts S) v
dead_listed S v d =
    let h = d.vertex in
    let ends = ends_by S h.owner v (kind_at h.owner.change.hunks v.start) refl h.is in
    let same : dead_at h.owner v.start v.end ≡ v = λ i. record { change = h.name i; start = v.start; end = v.end; kind = sym d.text i; status = sym d.dead i } in
    same_member (all_texts S) same (in_texts S h.owner h.member v.start v.end ends.end ends.start)
