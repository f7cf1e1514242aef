-- Each point of a set lies in a vertex, and in one alone where records of one name are one.
use Rattle.std.proofs.Common.{◌≡◌, ℕ, zero, suc, ◌+◌, ◌-◌, ◌<◌, ◌≤◌, List, refl, sym, ◌∙◌, ap, subst, inl, inr, arith, Bool, true, false}
use Rattle.std.specs.Prelude.{Contains, ◌⊎◌, Option, Some, None, slice_get}
use Rattle.std.proofs.lemmas.Bool.{cases_lt}
use Rattle.pj_change.specs.declared.point.Point.{Point}
use Rattle.pj_change.specs.declared.kind.Kind.{Kind}
use Rattle.pj_change.specs.declared.kind.Kind.TheVariants.{NameAt, FileInode, DirInode, Text}
use Rattle.pj_change.specs.declared.graph.VertexKind.TheVariants as vertex_kind
use Rattle.pj_change.specs.declared.graph.Status.TheVariants.{Alive}
use Rattle.pj_change.specs.declared.graph.Vertex.{Vertex}
use Rattle.pj_change.specs.declared.change.Record.{Record}
use Rattle.pj_change.specs.Positions.{kind_at}
use Rattle.pj_change.specs.Sets.{HaveOneText}
use Rattle.pj_change.specs.Lawful.{IsLawfulSet}
use Rattle.pj_change.specs.Status.{status_of}
use Rattle.pj_change.specs.Vertices.{is_cut, IsRun, IsVertexBy, IsVertex, name_kind}
use Rattle.pj_change.specs.PointsIn.{IsPointOf, LiesIn}
use Rattle.pj_change.proofs.Statuses.{point}
use Rattle.pj_change.proofs.Blocks.{block_at, block_starts, block_ends}
use Rattle.pj_change.proofs.OneVertex.{IsIn, by_any, one_vertex_of, set_record}
use Rattle.pj_change.proofs.EqualRecords.{have_one_record}

-- ---- the cuts round a number

-- the last number from first up to at that is first or passes the test
record IsLast (test : ℕ → Bool) (first at : ℕ) : Type 0 where
  it : ℕ
  low : first ≤ it
  high : it ≤ at
  is : (it ≡ first) ⊎ (test it ≡ true)
  none : (k : ℕ) → it < k → k ≤ at → test k ≡ false

-- the first number above at and up to past that is past or passes it
record IsNext (test : ℕ → Bool) (at past : ℕ) : Type 0 where
  it : ℕ
  low : at < it
  high : it ≤ past
  is : (it ≡ past) ⊎ (test it ≡ true)
  none : (k : ℕ) → at < k → k < it → test k ≡ false

module _ (test : ℕ → Bool) where
  last_from : (first more : ℕ) → IsLast test first (first + more)
  last_from first zero = record { it = first; low = omega arith; high = omega arith; is = inl refl; none = λ k l h. absurd (omega arith) }
  last_from first (suc more) = go (last_from first more) (test (first + suc more)) refl
    where
      go : IsLast test first (first + more) → (b : Bool) → test (first + suc more) ≡ b → IsLast test first (first + suc more)
      go rest true e = record { it = first + suc more; low = omega arith; high = omega arith; is = inr e; none = λ k l h. absurd (omega arith) }
      go rest false e =
          let low = rest.low in
          let high = rest.high in
          record {
            it = rest.it;
            low = omega arith;
            high = omega arith;
            is = rest.is;
            none = λ k l h. elim (cases_lt (first + more) k) [
              | inl s ↦ (let same : k ≡ first + suc more = omega arith in ap test same ∙ e)
              | inr s ↦ rest.none k l s
            ];
          }

  next_from : (at more : ℕ) → IsNext test at (at + suc more)
  next_from at zero = record { it = at + 1; low = omega arith; high = omega arith; is = inl (omega arith); none = λ k l h. absurd (omega arith) }
  next_from at (suc more) = go (next_from (at + 1) more) (test (at + 1)) refl
    where
      go : IsNext test (at + 1) (at + 1 + suc more) → (b : Bool) → test (at + 1) ≡ b → IsNext test at (at + suc (suc more))
      go rest true e = record { it = at + 1; low = omega arith; high = omega arith; is = inr e; none = λ k l h. absurd (omega arith) }
      go rest false e =
          let low = rest.low in
          let high = rest.high in
          let end : at + 1 + suc more ≡ at + suc (suc more) = omega arith in
          record {
            it = rest.it;
            low = omega arith;
            high = omega arith;
            is = elim rest.is [ inl s ↦ inl (s ∙ end) | inr s ↦ inr s ];
            none = λ k l h. elim (cases_lt (at + 1) k) [
              | inl s ↦ rest.none k s h
              | inr s ↦ (let same : k ≡ at + 1 = omega arith in ap test same ∙ e)
            ];
          }

-- ---- the vertex of a point

-- a vertex in which the point lies
pub record VertexOf (S : List Record) (p : Point) : Type 0 where
  pub it : Vertex
  pub is : IsVertex S it
  pub lies : LiesIn p it

module _ (S : List Record) (p : Point) (owner : Record) (member : Contains S owner) (name : owner.name ≡ p.change) where
  -- one position
  single : (v : Vertex) → v.change ≡ p.change → v.start ≡ p.offset → v.end ≡ p.offset + 1 → IsVertexBy S owner v (kind_at owner.change.hunks v.start) → VertexOf S p
  single v change start end is = record {
    it = v;
    is = record { owner = owner; member = member; name = name ∙ sym change; is = is };
    lies = record { change = change; low = omega arith; high = omega arith };
  }

  -- the run of a block between the cuts round the point
  run : (hunk first past : ℕ) → kind_at owner.change.hunks p.offset ≡ Some (Text hunk first past) → VertexOf S p
  run hunk first past e =
      let hunks = owner.change.hunks in
      let at = p.offset in
      let low = block_starts hunks at hunk first past e in
      let high = block_ends hunks at hunk first past e in
      let test : ℕ → Bool = λ k. is_cut S (point p.change k) in
      let from : IsLast test first at = subst (IsLast test first) (let n : first + (at - first) ≡ at = omega arith in n) (last_from test first (at - first)) in
      let upto : IsNext test at past = subst (IsNext test at) (let n : at + suc (past - at - 1) ≡ past = omega arith in n) (next_from test at (past - at - 1)) in
      let v : Vertex = record { change = p.change; start = from.it; end = upto.it; kind = vertex_kind.Text; status = status_of S (point p.change from.it) } in
      let from_low = from.low in
      let from_high = from.high in
      let upto_low = upto.low in
      let upto_high = upto.high in
      let there : kind_at hunks from.it ≡ Some (Text hunk first past) = block_at hunks at hunk first past e from.it from_low (omega arith) in
      let is_run : IsRun S v first past = record {
        nonempty = omega arith;
        inside = upto_high;
        from = from.is;
        upto = upto.is;
        uncut = λ k l h. elim (cases_lt at k) [ inl s ↦ upto.none k s h | inr s ↦ from.none k l (omega arith) ];
      } in
      record {
        it = v;
        is = record { owner = owner; member = member; name = name; is = subst (IsVertexBy S owner v) (sym there) (is_run, refl, refl) };
        lies = record { change = refl; low = from_high; high = upto_low };
      }

  vertex_by : (kind : Kind) → kind_at owner.change.hunks p.offset ≡ Some kind → VertexOf S p
  vertex_by (NameAt hunk) e =
      let v : Vertex = record { change = p.change; start = p.offset; end = p.offset + 1; kind = name_kind (slice_get owner.change.hunks hunk); status = status_of S p } in
      single v refl refl refl (subst (IsVertexBy S owner v) (sym e) (refl, refl, refl))
  vertex_by (FileInode hunk) e =
      let v : Vertex = record { change = p.change; start = p.offset; end = p.offset + 1; kind = vertex_kind.File; status = Alive } in
      single v refl refl refl (subst (IsVertexBy S owner v) (sym e) (refl, refl, refl))
  vertex_by (DirInode hunk) e =
      let v : Vertex = record { change = p.change; start = p.offset; end = p.offset + 1; kind = vertex_kind.Dir; status = Alive } in
      single v refl refl refl (subst (IsVertexBy S owner v) (sym e) (refl, refl, refl))
  vertex_by (Text hunk first past) e = run hunk first past e

-- each point of a set lies in a vertex of it
pub vertex_of : (S : List Record) (p : Point) → IsPointOf S p → VertexOf S p
vertex_of S p h = vertex_by S p h.owner h.member h.name h.kind h.there

lies_in : (p : Point) (v : Vertex) → LiesIn p v → IsIn v p.offset
lies_in p v h = record { low = h.low; high = h.high }

-- in one alone, where records with equal names have equal texts
pub one_vertex_at : (S : List Record) → HaveOneText S → (p : Point) (u v : Vertex) → IsVertex S u → IsVertex S v → LiesIn p u → LiesIn p v → u ≡ v
one_vertex_at S unique p u v a b l m =
    one_vertex_of S (have_one_record S unique) u v a b (l.change ∙ sym m.change) p.offset (lies_in p u l) (lies_in p v m)

-- so they have in a lawful set
pub lawful_one_text : (S : List Record) → IsLawfulSet S → HaveOneText S
lawful_one_text S set r s m n e = ap (λ (r : Record). r.text) (set_record S set r s m n e)

-- what lies in a vertex is a point of the set
pub point_of_vertex : (S : List Record) (p : Point) (v : Vertex) → IsVertex S v → LiesIn p v → IsPointOf S p
point_of_vertex S p v h l = go (kind_at h.owner.change.hunks v.start) refl h.is
  where
    go : (k : Option Kind) → kind_at h.owner.change.hunks v.start ≡ k → IsVertexBy S h.owner v k → IsPointOf S p
    go None e is = absurd is
    go (Some kind) e is = record {
      owner = h.owner;
      member = h.member;
      name = h.name ∙ l.change;
      kind = kind;
      there = by_any S h.owner v p.offset (lies_in p v l) (Some kind) e is;
    }
