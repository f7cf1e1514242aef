-- The text of a change is made by its insertions, so text of a set lies in blocks.
use Rattle.std.proofs.Common.{◌≡◌, ◌∙◌, sym, refl, ℕ, zero, suc, ◌+◌, ◌-◌, ◌≤◌, Bool, true, false, List, [], ◌∷◌, length, Option, Some, None, take, arith, nat_lt, sum_by}
use Rattle.std.specs.Prelude.{slice_get}
use Rattle.std.proofs.lemmas.Bool.{ltb-true}
use Rattle.std.proofs.lemmas.List.Sums.{sum_by-cons}
use Rattle.std.proofs.lemmas.Option.{same_Some}
use Rattle.pj_change.specs.declared.point.Ref.{Ref}
use Rattle.pj_change.specs.declared.hunk.Hunk.{Hunk}
use Rattle.pj_change.specs.declared.hunk.Hunk.TheVariants.{File, Dir, NameOf, Insert, Order, Delete, Revive}
use Rattle.pj_change.specs.declared.kind.Kind.{Kind}
use Rattle.pj_change.specs.declared.kind.Kind.TheVariants.{NameAt, FileInode, DirInode, Text}
use Rattle.pj_change.specs.declared.graph.Vertex.{Vertex}
use Rattle.pj_change.specs.declared.graph.VertexKind.TheVariants as vertex_kind
use Rattle.pj_change.specs.declared.change.Record.{Record}
use Rattle.pj_change.specs.Rules.{position_count}
use Rattle.pj_change.specs.Positions.{kind_in, kind_from, kind_at}
use Rattle.pj_change.specs.Vertices.{IsRun, IsVertexBy, IsVertex, name_kind}
use Rattle.pj_change.proofs.Blocks.{block_starts}
use Rattle.pj_change.proofs.KindLemmas.{kind_cons_here, kind_cons_on}
use Rattle.pj_outline.proofs.BlocksOfSets.{IsInsertion}

-- ---- text is made by an insertion

record IsMadeFrom (first : ℕ) (hs : List Hunk) (from past : ℕ) : Type 0 where
  number : ℕ
  file : Ref
  ups : List Ref
  downs : List Ref
  bytes : List ℕ
  there : slice_get hs number ≡ Some (Insert file ups downs bytes)
  begins : first + sum_by position_count (take number hs) ≡ from
  ends : from + length bytes ≡ past

made_here : (k first at hunk from past : ℕ) (h : Hunk) (hs : List Hunk) → nat_lt at (position_count h) ≡ true → kind_in k first h at ≡ Text hunk from past → IsMadeFrom first (h ∷ hs) from past
made_here k first zero hunk from past (File parent name exec) hs low e = absurd (cc)
made_here k first (suc at) hunk from past (File parent name exec) hs low e = absurd (cc)
made_here k first zero hunk from past (Dir parent name) hs low e = absurd (cc)
made_here k first (suc at) hunk from past (Dir parent name) hs low e = absurd (cc)
made_here k first at hunk from past (NameOf parent child name exec) hs low e = absurd (cc)
made_here k first at hunk from past (Insert file ups downs bytes) hs low e =
    let b : first ≡ from = cc in
    let p : first + length bytes ≡ past = cc in
    record { number = 0; file = file; ups = ups; downs = downs; bytes = bytes; there = refl; begins = omega (arith, b); ends = omega (arith, b, p) }
made_here k first at hunk from past (Order file source target) hs low e = absurd (let l = ltb-true at 0 low in omega (arith, l))
made_here k first at hunk from past (Delete owner start end by) hs low e = absurd (let l = ltb-true at 0 low in omega (arith, l))
made_here k first at hunk from past (Revive owner start end by) hs low e = absurd (let l = ltb-true at 0 low in omega (arith, l))

made_from : (k first : ℕ) (hs : List Hunk) (at hunk from past : ℕ) → kind_from k first hs at ≡ Some (Text hunk from past) → IsMadeFrom first hs from past
unfolding kind_from
made_from k first [] at hunk from past e = absurd (cc)
made_from k first (h ∷ hs) at hunk from past e =
    by (nat_lt at (position_count h)) refl (made_from (k + 1) (first + position_count h) hs (at - position_count h) hunk from past)
  where
    by : (b : Bool) → nat_lt at (position_count h) ≡ b →
        (kind_from (k + 1) (first + position_count h) hs (at - position_count h) ≡ Some (Text hunk from past) → IsMadeFrom (first + position_count h) hs from past) → IsMadeFrom first (h ∷ hs) from past
    by true low rest = made_here k first at hunk from past h hs low (same_Some (kind_in k first h at) (Text hunk from past) (sym (kind_cons_here k first at h hs low) ∙ e))
    by false low rest =
        let m = rest (sym (kind_cons_on k first at h hs low) ∙ e) in
        record {
          number = suc m.number;
          file = m.file;
          ups = m.ups;
          downs = m.downs;
          bytes = m.bytes;
          there = m.there;
          begins = let b = m.begins in omega (arith, b, sum_by-cons position_count h (take m.number hs));
          ends = m.ends;
        }

-- the insertion whose text stands at a position
pub text_made : (hs : List Hunk) (at hunk from past : ℕ) → kind_at hs at ≡ Some (Text hunk from past) → IsInsertion hs from past
text_made hs at hunk from past e =
    let m = made_from 0 0 hs at hunk from past e in
    record {
      number = m.number;
      file = m.file;
      ups = m.ups;
      downs = m.downs;
      bytes = m.bytes;
      there = m.there;
      first_is = let b = m.begins in omega (arith, b);
      past_is = m.ends;
    }

-- ---- a vertex of text is a run of a block

-- the run of a block of its owner, made by an insertion
pub record IsRunOfBlock (S : List Record) (v : Vertex) (owner : Record) : Type 0 where
  pub hunk : ℕ
  pub first : ℕ
  pub past : ℕ
  pub there : kind_at owner.change.hunks v.start ≡ Some (Text hunk first past)
  pub low : first ≤ v.start
  pub made : IsInsertion owner.change.hunks first past
  pub run : IsRun S v first past

-- a name is not text
pub not_name : (o : Option Hunk) → name_kind o ≡ vertex_kind.Text → ⊥
not_name None e = cc
not_name (Some (File parent name true)) e = cc
not_name (Some (File parent name false)) e = cc
not_name (Some (Dir parent name)) e = cc
not_name (Some (NameOf parent child name true)) e = cc
not_name (Some (NameOf parent child name false)) e = cc
not_name (Some (Insert file ups downs bytes)) e = cc
not_name (Some (Order file source target)) e = cc
not_name (Some (Delete owner start end by)) e = cc
not_name (Some (Revive owner start end by)) e = cc

pub run_of_block : (S : List Record) (v : Vertex) (h : IsVertex S v) → v.kind ≡ vertex_kind.Text → IsRunOfBlock S v h.owner
run_of_block S v h text = by (kind_at h.owner.change.hunks v.start) refl h.is
  where
    by : (k : Option Kind) → kind_at h.owner.change.hunks v.start ≡ k → IsVertexBy S h.owner v k → IsRunOfBlock S v h.owner
    by None e i = absurd i
    by (Some (NameAt hunk)) e i = absurd (not_name (slice_get h.owner.change.hunks hunk) (sym i.1 ∙ text))
    by (Some (FileInode hunk)) e i = absurd (let s : vertex_kind.File ≡ vertex_kind.Text = sym i.1 ∙ text in cc)
    by (Some (DirInode hunk)) e i = absurd (let s : vertex_kind.Dir ≡ vertex_kind.Text = sym i.1 ∙ text in cc)
    by (Some (Text hunk first past)) e i = record {
      hunk = hunk;
      first = first;
      past = past;
      there = e;
      low = block_starts h.owner.change.hunks v.start hunk first past e;
      made = text_made h.owner.change.hunks v.start hunk first past e;
      run = i.0;
    }
