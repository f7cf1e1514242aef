-- A change has no more positions than its text has bytes.
use Rattle.std.proofs.Common.{◌≡◌, ℕ, ◌+◌, ◌<◌, ◌≤◌, true, false, List, [], ◌∷◌, length, get_or, take, ap, arith, length-append, nat_eq, if◌then◌else◌}
use Rattle.std.specs.Prelude.{sum_by, flat_map}
use Rattle.std.proofs.lemmas.List.Sums.{sum_by-cons, sum_by_more_le, sum_by-take-le}
use Rattle.pj_change.specs.declared.hunk.Hunk.{Hunk}
use Rattle.pj_change.specs.declared.hunk.Hunk.TheVariants.{File, Dir, NameOf, Insert, Order, Delete, Revive}
use Rattle.pj_change.specs.declared.change.Change.{Change}
use Rattle.pj_change.specs.Text.{Parts, text_of, hunk_text}
use Rattle.pj_change.specs.Rules.{position_count, longest, IsChange}

-- a hunk has no more positions than its text has bytes
pub position_count-le : (h : Hunk) → position_count h ≤ length (hunk_text h)
unfolding hunk_text
position_count-le (File parent name exec) = simp length-append (omega arith)
position_count-le (Dir parent name) = simp length-append (omega arith)
position_count-le (NameOf parent child name exec) = simp length-append (omega arith)
position_count-le (Insert file ups downs bytes) = simp length-append (omega arith)
position_count-le (Order file source target) = omega arith
position_count-le (Delete owner start end by) = omega arith
position_count-le (Revive owner start end by) = omega arith

pub sum_positions-le : (hs : List Hunk) → sum_by position_count hs ≤ length (flat_map hunk_text hs)
sum_positions-le [] = omega arith
sum_positions-le (h ∷ hs) = omega (arith, sum_by-cons position_count h hs, length-append (hunk_text h) (flat_map hunk_text hs), position_count-le h, sum_positions-le hs)

-- no text is longer than those of version 2
pub longest-le : (v : ℕ) → longest v ≤ 16777216
longest-le v = elim (nat_eq v 1) as (λ b. (if b then 1048576 else 16777216) ≤ 16777216) [ true ↦ omega arith | false ↦ omega arith ]

-- the text of the hunks is within that of the parts
pub hunks-le : (p : Parts) → length (flat_map hunk_text p.hunks) ≤ length (text_of p)
unfolding text_of
hunks-le p = simp length-append (omega arith)

-- the number of positions
pub few_positions : (p : Parts) → IsChange p → sum_by position_count p.hunks ≤ 16777216
few_positions p c = omega (arith, sum_positions-le p.hunks, hunks-le p, c.short, longest-le p.version)

-- the positions of the first n hunks, up to and with one of them
pub few_before : (c : Change) (hs : List Hunk) (n i : ℕ) (h : Hunk) → hs ≡ c.hunks → h ≡ get_or (take n hs) i h → i < length (take n hs) →
    sum_by position_count (take i (take n hs)) + position_count h ≤ 16777216
few_before c hs n i h e at low =
    omega (arith, sum_by_more_le position_count (take n hs) i h low, ap position_count at, sum_by-take-le position_count hs n, ap (sum_by position_count) e, few_positions _ c.keeps)

-- the positions of the hunks up to and with one of them
pub few_upto : (c : Change) (hs : List Hunk) (i : ℕ) (h : Hunk) → hs ≡ c.hunks → h ≡ get_or hs i h → i < length hs → sum_by position_count (take i hs) + position_count h ≤ 16777216
few_upto c hs i h e at low = omega (arith, sum_by_more_le position_count hs i h low, ap position_count at, ap (sum_by position_count) e, few_positions _ c.keeps)
