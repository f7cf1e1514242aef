-- The blocks of a list of changes, and the text in each.
use Rattle.std.proofs.Common.{◌≡◌, ◌∙◌, ℕ, zero, suc, ◌+◌, ◌-◌, ◌<◌, ◌≤◌, List, [], ◌∷◌, Option, Some, None, take, refl, sym, ap, subst, inl, inr, arith}
use Rattle.std.specs.Prelude.{Contains, slice_get, sum_by, option_and_then, MatchOption}
use Rattle.std.specs.List.Sorted.{IsPermutation}
use Rattle.std.proofs.lemmas.Bool.{cases_lt}
use Rattle.std.proofs.lemmas.List.Sorted.{Contains-permutation, IsPermutation-sym}
use Rattle.std.proofs.lemmas.List.Sums.{sum_by-cons}
use Rattle.std.proofs.lemmas.Option.{same_Some, slice_get_within}
use Rattle.pj_change.specs.declared.point.Point.{Point}
use Rattle.pj_change.specs.declared.point.Place.{Place}
use Rattle.pj_change.specs.declared.point.Place.TheVariants as placed
use Rattle.pj_change.specs.declared.hunk.Hunk.{Hunk}
use Rattle.pj_change.specs.declared.hunk.Hunk.TheVariants.{File, Dir, NameOf, Insert, Order, Delete, Revive}
use Rattle.pj_change.specs.declared.kind.Kind.TheVariants.{Text}
use Rattle.pj_change.specs.declared.graph.Vertex.{Vertex}
use Rattle.pj_change.specs.declared.change.Record.{Record}
use Rattle.pj_change.specs.Context.{file_by, file_at}
use Rattle.pj_change.specs.Gathers.{Gathers, IsOfOne}
use Rattle.pj_change.specs.Lawful.{IsLawful}
use Rattle.pj_change.specs.PointsIn.{LiesIn}
use Rattle.pj_change.specs.Positions.{kind_in, kind_at, place, own_point, file_of}
use Rattle.pj_change.specs.Rules.{position_count}
use Rattle.pj_change.specs.Vertices.{IsVertex, IsVertexBy}
use Rattle.pj_change.proofs.FileEdges.{file_text, by_owner}
use Rattle.pj_change.proofs.Gathering.{gathered, gathers_alike}
use Rattle.pj_change.proofs.LawfulLists.{set_of}
use Rattle.pj_change.proofs.Members.{no_member}
use Rattle.pj_change.proofs.OneVertex.{by_any}
use Rattle.pj_change.proofs.PositionLemmas.{kind_at_below, kind_at_into}
use Rattle.pj_change.proofs.VertexOfPoint.{vertex_of}
use Rattle.pj_tables.specs.TextAt.{IsTextAt}
use Rattle.pj_output.specs.declared.blocks.Block.{Block}
use Rattle.pj_output.specs.Blocks.{block_in, IsBlockBy, IsBlockOf, IsBlock, IsTextFrom}
use Rattle.pj_output.specs.LiveText.{BeginsIn, IsLiveVertex}
use Rattle.pj_output.specs.declared.live_text.LiveVertex.{LiveVertex}

-- ---- the file of a position

-- what stands in a hunk is of the file of the hunk
kind_file : (r : Record) (i first at : ℕ) (h : Hunk) → slice_get r.change.hunks i ≡ Some h → file_by r (Some (kind_in i first h at)) ≡ file_of r h
kind_file r i first zero (File parent name exec) e = refl
kind_file r i first (suc at) (File parent name exec) e = refl
kind_file r i first zero (Dir parent name) e = refl
kind_file r i first (suc at) (Dir parent name) e = refl
kind_file r i first at (NameOf parent child name exec) e = refl
kind_file r i first at (Insert file ups downs bytes) e = ap (option_and_then (file_of r)) e
kind_file r i first at (Order file source target) e = ap (option_and_then (file_of r)) e
kind_file r i first at (Delete owner start end by) e = ap (option_and_then (file_of r)) e
kind_file r i first at (Revive owner start end by) e = ap (option_and_then (file_of r)) e

file_within : (r : Record) (i at : ℕ) (h : Hunk) → slice_get r.change.hunks i ≡ Some h → at < position_count h → file_at r (place r.change.hunks i + at) ≡ file_of r h
file_within r i at h there low = ap (file_by r) (kind_at_into r.change.hunks i h at there low) ∙ kind_file r i (place r.change.hunks i) at h there

-- the position is one of a hunk
record IsWithin (hs : List Hunk) (at : ℕ) : Type 0 where
  number : ℕ
  hunk : Hunk
  there : slice_get hs number ≡ Some hunk
  low : place hs number ≤ at
  high : at < place hs number + position_count hunk

within : (hs : List Hunk) (at : ℕ) → at < sum_by position_count hs → IsWithin hs at
within [] at l = absurd (omega (arith, l))
within (h ∷ hs) at l = elim (cases_lt at (position_count h)) [
  | inl here ↦ record { number = 0; hunk = h; there = refl; low = omega arith; high = omega (arith, here) }
  | inr later ↦ (
      let w = within hs (at - position_count h) (omega (arith, l, later, sum_by-cons position_count h hs)) in
      let low = w.low in
      let high = w.high in
      let start = sum_by-cons position_count h (take w.number hs) in
      record { number = suc w.number; hunk = w.hunk; there = w.there; low = omega (arith, low, later, start); high = omega (arith, high, later, start) })
]

-- ---- the block of a hunk

-- what the block of a file from a position on is
record IsBlockFrom (r : Record) (first count : ℕ) (file : Option Place) (b : Block) : Type 0 where
  of_file : file ≡ Some (placed.At b.inode)
  first_is : b.first ≡ own_point r first
  past_is : b.past ≡ first + count

block_parts : (r : Record) (first count : ℕ) (file : Option Place) (b : Block) → block_in r first count file ≡ Some b → IsBlockFrom r first count file b
block_parts r first count None b e = absurd (cc)
block_parts r first count (Some placed.Root) b e = absurd (cc)
block_parts r first count (Some (placed.At inode)) b e =
    let s = same_Some _ b e in
    record {
      of_file = ap (λ (x : Block). Some (placed.At x.inode)) s;
      first_is = sym (ap (λ (x : Block). x.first) s);
      past_is = sym (ap (λ (x : Block). x.past) s);
    }

-- the numbered hunk makes what this one makes
pub block_added : (r : Record) (i first : ℕ) (h : Hunk) → slice_get r.change.hunks i ≡ Some h → first ≡ place r.change.hunks i → (old new : List Block) →
    Gathers (λ b. block_in r first (position_count h) (file_of r h) ≡ Some b) old new → Gathers (IsBlockBy r i) old new
block_added r i first h there at old new g =
    gathers_alike (λ b. block_in r first (position_count h) (file_of r h) ≡ Some b) (IsBlockBy r i) old new
    (λ b e. record { hunk = h; there = there; is = subst (λ n. block_in r n (position_count h) (file_of r h) ≡ Some b) at e })
    (λ b k.
    let same : k.hunk ≡ h = same_Some k.hunk h (sym k.there ∙ there) in
    subst (λ n. block_in r n (position_count h) (file_of r h) ≡ Some b) (sym at)
    (subst (λ (g : Hunk). block_in r (place r.change.hunks i) (position_count g) (file_of r g) ≡ Some b) same k.is))
    g

-- a block of a change has bytes of its file all along
block_told : (S : List Record) (r : Record) → Contains S r → (b : Block) → IsBlockOf r b → IsBlock S b
block_told S r member b n =
    let i = n.number in
    let h = n.is.hunk in
    let parts = block_parts r (place r.change.hunks i) (position_count h) (file_of r h) b n.is.is in
    let start : b.first.offset ≡ place r.change.hunks i = ap (λ (p : Point). p.offset) parts.first_is in
    let past = parts.past_is in
    record {
      owner = r;
      member = member;
      name = sym (ap (λ (p : Point). p.change) parts.first_is);
      of_file = λ offset low high.
          let at : place r.change.hunks i + (offset - place r.change.hunks i) ≡ offset = omega (arith, start, low) in
          subst (λ k. file_at r k ≡ Some (placed.At b.inode)) at
          (file_within r i (offset - place r.change.hunks i) h n.is.there (omega (arith, start, low, high, past)) ∙ parts.of_file);
    }

pub blocks_told : (S : List Record) (blocks : List Block) → Gathers (IsOfOne IsBlockOf S) [] blocks → (b : Block) → Contains blocks b → IsBlock S b
blocks_told S blocks g b m = (let o = gathered (IsOfOne IsBlockOf S) blocks g b m in block_told S o.one o.member b o.is)

-- blocks in another order are the same blocks
pub blocks_moved : (P : Block → Type 0) (old new : List Block) → IsPermutation old new → Gathers P [] old → Gathers P [] new
blocks_moved P old new moved g = record {
  kept = λ b m. absurd (no_member b m);
  all = λ b p. Contains-permutation old new b moved (g.all b p);
  only = λ b m. inr (gathered P old g b (Contains-permutation new old b (IsPermutation-sym old new moved) m));
}

-- live text begins in a block
pub record HasBlock (S : List Record) (e : LiveVertex) : Type 0 where
  pub block : Block
  pub is : IsOfOne IsBlockOf S block
  pub begins : BeginsIn block block.past e

pub has_block : (S : List Record) (e : LiveVertex) → IsLiveVertex S e → HasBlock S e
has_block S e live =
    let r = live.owner in
    let hs = r.change.hunks in
    let at = e.vertex.start in
    let t = file_text r at (placed.At e.inode) live.of_file in
    let w = within hs at (kind_at_below hs at (Text t.hunk t.start t.past) t.is) in
    let low = w.low in
    let high = w.high in
    let same : place hs w.number + (at - place hs w.number) ≡ at = omega (arith, low) in
    let file : file_of r w.hunk ≡ Some (placed.At e.inode) =
    sym (file_within r w.number (at - place hs w.number) w.hunk w.there (omega (arith, low, high))) ∙ ap (file_at r) same ∙ live.of_file in
    record {
      block = record { inode = e.inode; first = own_point r (place hs w.number); past = place hs w.number + position_count w.hunk };
      is = record {
        one = r;
        member = live.member;
        is = record {
          number = w.number;
          low = slice_get_within hs w.number w.hunk w.there;
          is = record { hunk = w.hunk; there = w.there; is = ap (block_in r (place hs w.number) (position_count w.hunk)) file };
        };
      };
      begins = record { change = sym live.name; low = low; high = high };
    }

-- ---- the text of a block

module _ (S : List Record) (lawful : IsLawful S) (b : Block) (is : IsBlock S b) (offset : ℕ) (low : b.first.offset ≤ offset) (high : offset < b.past) where
  abbrev at : Point
  at = record { change = b.first.change; offset = offset }

  by : (v : Vertex) → IsVertex S v → LiesIn at v → IsVertexBy S is.owner v (kind_at is.owner.change.hunks v.start)
  by v h lies = by_owner S (set_of S lawful) v h is.owner is.member (is.name ∙ sym lies.change)

  -- what stands at a position stands where its vertex begins
  stands : (v : Vertex) → IsVertex S v → LiesIn at v → kind_at is.owner.change.hunks offset ≡ kind_at is.owner.change.hunks v.start
  stands v h lies = by_any S is.owner v offset (record { low = lies.low; high = lies.high }) (kind_at is.owner.change.hunks v.start) refl (by v h lies)

  -- text at a position of the block is of its file
  text_told : (v : Vertex) → IsTextAt S at v → IsTextFrom S b offset v
  text_told v t = record {
    is = record {
      vertex = t.vertex;
      text = t.text;
      owner = is.owner;
      member = is.member;
      name = is.name ∙ sym t.lies.change;
      of_file = ap (file_by is.owner) (sym (stands v t.vertex t.lies)) ∙ is.of_file offset low high;
    };
    before = high;
    lies = t.lies;
  }

  -- and there is text
  text_there : ((v : Vertex) → IsTextAt S at v → ⊥) → ⊥
  text_there none =
      let t = file_text is.owner offset (placed.At b.inode) (is.of_file offset low high) in
      let w = vertex_of S at (record { owner = is.owner; member = is.member; name = is.name; kind = Text t.hunk t.start t.past; there = t.is }) in
      let text : IsVertexBy S is.owner w.it (Some (Text t.hunk t.start t.past)) = subst (IsVertexBy S is.owner w.it) (sym (stands w.it w.is w.lies) ∙ t.is) (by w.it w.is w.lies) in
      none w.it (record { vertex = w.is; text = text.1; lies = w.lies })

  -- what is found there is text of the block
  pub text_found : (found : Option Vertex) → MatchOption found ((v : Vertex) → IsTextAt S at v → ⊥) (IsTextAt S at) → MatchOption found (b.past ≤ offset) (IsTextFrom S b offset)
  text_found None none = absurd (text_there none)
  text_found (Some v) t = text_told v t
