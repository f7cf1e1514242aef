-- The table of a set of changes: with one change more, without one, and what it says of each.
use Rattle.std.proofs.Common.{◌≡◌, ◌∙◌, sym, ap, subst, refl, ℕ, ◌+◌, ◌<◌, ◌^◌, Bool, true, false, ◌||◌, List, [], ◌∷◌, ◌++◌, cond, arith, nat_lt, sum_by, inl, inr}
use Rattle.std.specs.Prelude.{◌≢◌, Contains, Option, Some, None, option_and_then}
use Rattle.std.proofs.lemmas.Bool.{and_parts, or_cases}
use Rattle.std.proofs.lemmas.List.Sums.{sum_by-cons, sum_by-append}
use Rattle.pj_name.specs.declared.name.Name.{Name}
use Rattle.pj_name.specs.Name.{same_name}
use Rattle.pj_change.specs.declared.point.Point.{Point}
use Rattle.pj_change.specs.declared.point.Ref.{Ref}
use Rattle.pj_change.specs.declared.point.Ref.TheVariants as ref
use Rattle.pj_change.specs.declared.hunk.Hunk.{Hunk}
use Rattle.pj_change.specs.declared.hunk.Hunk.TheVariants.{File, Dir, NameOf, Insert, Order, Delete, Revive}
use Rattle.pj_change.specs.declared.kind.Kind.{Kind}
use Rattle.pj_change.specs.declared.change.Record.{Record}
use Rattle.pj_change.specs.Positions.{resolve, own_point, kind_at, same_place}
use Rattle.pj_change.specs.Context.{meant, kind_of, is_file, is_file_inode, is_byte, is_some_place, file_at, file_by, holds}
use Rattle.pj_change.specs.Lawful.{needs_of}
use Rattle.pj_change.specs.CutCounts.{cuts_by, cuts_before}
use Rattle.pj_change.proofs.Members.{first_member, later_member, uncons, splits, middle_member, none_member, all_member}
use Rattle.pj_change.proofs.Listings.{IsRelated, related_pairs}
use Rattle.pj_change.proofs.Counting.{sum_middle}
use Rattle.pj_change.proofs.CountedCuts.{counted_cut}
use Rattle.pj_change.proofs.EqualNames.{name_itself, same_name_is, same_place_is}
use Rattle.pj_change.proofs.PositionLemmas.{position_small}
use Rattle.pj_cuts.specs.Counted.{Counted, at_offset, count_at, length_at}
use Rattle.pj_cuts.specs.CutsOf.{block_by, block_length, HasPositionAfter, FitsAfter, AreCutsOf}
use Rattle.pj_cuts.specs.Laws.{CountedWhereCut, FreeWhereNew, BlocksWhereHeld, CutsWhereHeld, FitsWhereContext}

-- ---- one change more or less

sum_last : (f : Record → ℕ) (S : List Record) (r : Record) → sum_by f (S ++ r ∷ []) ≡ sum_by f S + f r
sum_last f S r = rw (sum_by-append f S (r ∷ []), sum_by-cons f r []) (omega arith)

pub one_more : (c d : Counted) (r : Record) → ((p : Point) → count_at d p ≡ count_at c p + cuts_by r p) → ((p : Point) → length_at d p ≡ length_at c p + block_by r p) →
    (S : List Record) → AreCutsOf S c → AreCutsOf (S ++ r ∷ []) d
one_more c d r counts blocks S is = record {
  counts = λ p. omega (arith, counts p, is.counts p, sum_last (λ s. cuts_by s p) S r);
  blocks = λ p. omega (arith, blocks p, is.blocks p, sum_last (λ s. block_by s p) S r);
}

pub one_less : (c d : Counted) (r : Record) → ((p : Point) → count_at d p + cuts_by r p ≡ count_at c p) → ((p : Point) → length_at d p + block_by r p ≡ length_at c p) →
    (before after : List Record) → AreCutsOf (before ++ r ∷ after) c → AreCutsOf (before ++ after) d
one_less c d r counts blocks before after is = record {
  counts = λ p. omega (arith, counts p, is.counts p, sum_middle (λ s. cuts_by s p) before r after);
  blocks = λ p. omega (arith, blocks p, is.blocks p, sum_middle (λ s. block_by s p) before r after);
}

-- ---- cuts and blocks of a set

pub counted_where_cut : CountedWhereCut
counted_where_cut S c is n at = ap (nat_lt 0) (is.counts (at_offset n at)) ∙ counted_cut (at_offset n at) S

pub cuts_where_held : CutsWhereHeld
cuts_where_held S c is r m p =
    let s = splits S r m in
    let whole : cuts_before S p ≡ cuts_before (s.before ++ r ∷ s.after) p = ap (λ T. cuts_before T p) s.is in
    omega (arith, is.counts p, whole, sum_middle (λ t. cuts_by t p) s.before r s.after)

sum_none : (f : Record → ℕ) (S : List Record) → ((r : Record) → Contains S r → f r ≡ 0) → sum_by f S ≡ 0
sum_none f [] none = refl
sum_none f (r ∷ S) none = omega (arith, sum_by-cons f r S, none r (first_member r S), sum_none f S (λ s m. none s (later_member r S s m)))

-- a change of another name has no block there
block_other : (r : Record) (n : Name) (at : ℕ) → same_name r.name n ≡ false → block_by r (at_offset n at) ≡ 0
block_other r n at e = ap (λ b. cond b (block_length r at) 0) e

pub free_where_new : FreeWhereNew
free_where_new S c is n new at first past b =
    let from = b.from in
    let upto = b.upto in
    let block = b.block in
    let none = sum_none (λ r. block_by r (at_offset n first)) S (λ r m. block_other r n first (none_member (λ s. same_name s.name n) S r new m)) in
    omega (arith, from, upto, block, is.blocks (at_offset n first), none)

-- the others of a list with distinct names
others_differ : (xs : List Record) (r : Record) (ys : List Record) → IsRelated (λ a b. a.name ≢ b.name) (xs ++ r ∷ ys) → (s : Record) → Contains (xs ++ ys) s → s.name ≡ r.name → ⊥
others_differ [] r ys h s m e = h.0 s m (sym e)
others_differ (x ∷ xs) r ys h s m e = elim (uncons x (xs ++ ys) s m) [
  | inl same ↦ h.0 r (middle_member xs ys r) (ap (λ (t : Record). t.name) same ∙ e)
  | inr later ↦ others_differ xs r ys h.1 s later e
]

other_name : (b : Bool) → (b ≡ true → ⊥) → b ≡ false
other_name true h = absurd (h refl)
other_name false h = refl

pub blocks_where_held : BlocksWhereHeld
blocks_where_held S c is distinct r m at =
    let s = splits S r m in
    let p = own_point r at in
    let apart = subst (IsRelated (λ a b. a.name ≢ b.name)) s.is (related_pairs (λ a b. a.name ≢ b.name) S distinct) in
    let whole : sum_by (λ t. block_by t p) S ≡ sum_by (λ t. block_by t p) (s.before ++ r ∷ s.after) = ap (sum_by (λ t. block_by t p)) s.is in
    let others = sum_none (λ t. block_by t p) (s.before ++ s.after) (λ t k. block_other t r.name at (other_name (same_name t.name r.name) (λ e. others_differ s.before r s.after apart t k (same_name_is t.name r.name e)))) in
    let own : block_by r p ≡ block_length r at = ap (λ b. cond b (block_length r at) 0) (name_itself r.name) in
    omega (arith, is.blocks p, whole, sum_middle (λ t. block_by t p) s.before r s.after, others, own)

-- ---- contexts

-- a position stands after one that exists
kind_after : (c : Record) (needs : List Record) (owner offset : ℕ) (kind : Kind) → kind_of c needs (ref.At owner offset) ≡ Some kind → offset + 1 < 2 ^ 32
kind_after c needs owner offset kind e = by (meant c needs owner) e
  where
    by : (m : Option Record) → option_and_then (λ (r : Record). kind_at r.change.hunks offset) m ≡ Some kind → offset + 1 < 2 ^ 32
    by None h = absurd (cc)
    by (Some r) h = position_small r.change offset kind h

file_after : (c : Record) (needs : List Record) (at : Ref) → is_file c needs at ≡ true → HasPositionAfter (resolve c at)
file_after c needs ref.Root e = tt
file_after c needs (ref.At owner offset) e = by (kind_of c needs (ref.At owner offset)) refl e
  where
    by : (k : Option Kind) → kind_of c needs (ref.At owner offset) ≡ k → is_file_inode k ≡ true → offset + 1 < 2 ^ 32
    by None is h = absurd (cc)
    by (Some kind) is h = kind_after c needs owner offset kind is

byte_after : (c : Record) (needs : List Record) (file at : Ref) → is_byte c needs file at ≡ true → HasPositionAfter (resolve c at)
byte_after c needs file ref.Root e = tt
byte_after c needs file (ref.At owner offset) e = by (meant c needs owner) e
  where
    inside : (m : Record) (k : Option Kind) → kind_at m.change.hunks offset ≡ k → is_some_place (resolve c file) (file_by m k) ≡ true → offset + 1 < 2 ^ 32
    inside m None is h = absurd (cc)
    inside m (Some kind) is h = position_small m.change offset kind is

    by : (m : Option Record) → is_some_place (resolve c file) (option_and_then (λ (r : Record). file_at r offset) m) ≡ true → offset + 1 < 2 ^ 32
    by None h = absurd (cc)
    by (Some m) h = inside m (kind_at m.change.hunks offset) refl h

fits_after : (c : Record) (needs : List Record) (h : Hunk) → holds c needs h ≡ true → FitsAfter c h
fits_after c needs (File parent name exec) e = tt
fits_after c needs (Dir parent name) e = tt
fits_after c needs (NameOf parent child name exec) e = tt
fits_after c needs (Insert file ups downs bytes) e = λ up m.
    let both = and_parts _ _ (and_parts _ _ e).0 in
    let one = all_member (λ u. same_place (resolve c u) (resolve c file) || is_byte c needs file u) ups up both.1 m in
    elim (or_cases (same_place (resolve c up) (resolve c file)) (is_byte c needs file up) one) [
      | inl same ↦ subst HasPositionAfter (sym (same_place_is (resolve c up) (resolve c file) same)) (file_after c needs file both.0)
      | inr byte ↦ byte_after c needs file up byte
    ]
fits_after c needs (Order file source target) e = byte_after c needs file source (and_parts _ _ (and_parts _ _ (and_parts _ _ e).0).0).1
fits_after c needs (Delete owner start end by) e = tt
fits_after c needs (Revive owner start end by) e = tt

pub fits_where_context : FitsWhereContext
fits_where_context list r follows h m = fits_after r (needs_of list r) h (all_member (holds r (needs_of list r)) r.change.hunks h follows.context m)
