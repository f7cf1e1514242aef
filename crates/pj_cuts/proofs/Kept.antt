-- What is kept of a table of cuts when one block comes or goes.
use Rattle.std.proofs.Common.{◌≡◌, ◌∙◌, sym, ap, subst, refl, ℕ, ◌+◌, ◌<◌, ◌≤◌, ◌^◌, true, false, List, Some, arith, ◌⊎◌, inl, inr, nat_le}
use Rattle.pj_name.specs.declared.name.Name.{Name}
use Rattle.pj_change.specs.declared.point.Point.{Point}
use Rattle.pj_pmap.specs.Pairs.{value_at, with_pair, without_key, IsRising}
use Rattle.pj_rows.specs.declared.values.Count.{Count}
use Rattle.pj_rows.specs.Keys.{AllCounted}
use Rattle.pj_rows.proofs.FoundLemmas.{found_with, found_without}
use Rattle.pj_cuts.specs.declared.keys.CutAt.{CutAt}
use Rattle.pj_cuts.specs.declared.keys.Length.{Length}
use Rattle.pj_cuts.specs.Counted.{Counted, cut_cmp, key, extent, at_offset, length_at, InBlock, IsFree, IsCounted}
use Rattle.pj_cuts.proofs.CutOrder.{cut_total, cut_tied}

-- a number is at most another one, if it is not above it
pub not_below : (a b : ℕ) → (b < a → ⊥) → a ≤ b
not_below a b h = elim (le_or_above a b) [ inl l ↦ l | inr m ↦ absurd (h m) ]
  where
    le_or_above : (a b : ℕ) → (a ≤ b) ⊎ (b < a)
    le_or_above a b = elim (nat_le a b) as (λ t. nat_le a b ≡ t → (a ≤ b) ⊎ (b < a)) [ true ↦ λ e. inl (grind arith) | false ↦ λ e. inr (grind arith) ] refl

-- no block begins where it is free
pub free_first : (c : Counted) (n : Name) (first len : ℕ) → 0 < len → IsFree c n first (first + len) → length_at c (at_offset n first) ≡ 0
free_first c n first len some free =
    none (length_at c (at_offset n first)) (not_below (length_at c (at_offset n first)) 0
    (λ h. free first (omega arith) (omega arith) first (first + length_at c (at_offset n first)) (record { from = omega arith; upto = omega arith; block = refl })))
  where
    none : (n : ℕ) → n ≤ 0 → n ≡ 0
    none n h = omega arith

-- other counts
pub counts_change : (counts new : List (CutAt × Count)) (blocks : List (CutAt × Length)) → IsCounted counts blocks → AllCounted cut_cmp new → IsCounted new blocks
counts_change counts new blocks is a = record { counts_kept = a; blocks_rise = is.blocks_rise; low = is.low; apart = is.apart }

module _ (counts : List (CutAt × Count)) (blocks : List (CutAt × Length)) (is : IsCounted counts blocks) where
  abbrev table : Counted
  table = record { counts = counts; blocks = blocks }

  pub blocks_without : (at : CutAt) → IsRising cut_cmp (without_key cut_cmp at blocks) → IsCounted counts (without_key cut_cmp at blocks)
  blocks_without at rise = record {
    counts_kept = is.counts_kept;
    blocks_rise = rise;
    low = λ k m h. is.low k m (found_without cut_cmp cut_total k at m blocks is.blocks_rise h);
    apart = λ k l m n h i. is.apart k l m n (found_without cut_cmp cut_total k at m blocks is.blocks_rise h) (found_without cut_cmp cut_total l at n blocks is.blocks_rise i);
  }

  -- a block that is there has its positions
  in_block : (k : CutAt) (m : Length) (o : ℕ) → value_at cut_cmp k blocks ≡ Some m → k.at.offset ≤ o → o < k.at.offset + m.len → InBlock table k.at.change o k.at.offset (k.at.offset + m.len)
  in_block k m o h low high = record { from = low; upto = high; block = ap (λ v. k.at.offset + extent v) h }

  module _ (first : Point) (len : Length) (some : 0 < len.len) (low : first.offset + len.len < 2 ^ 32) (free : IsFree table first.change first.offset (first.offset + len.len)) where
    -- a block of the changed table is the new one, or was there
    Case : CutAt → Length → Type 0
    Case k m = ((k ≡ key first) × (len ≡ m)) ⊎ (value_at cut_cmp k blocks ≡ Some m)

    case : (k : CutAt) (m : Length) → value_at cut_cmp k (with_pair cut_cmp (key first) len blocks) ≡ Some m → Case k m
    unfolding Case
    case k m h = elim (found_with cut_cmp cut_total k (key first) len m blocks h) [
      | inl s ↦ inl (cut_tied k (key first) s.0, s.1)
      | inr there ↦ inr there
    ]

    low_case : (k : CutAt) (m : Length) → Case k m → (0 < m.len) × (k.at.offset + m.len < 2 ^ 32)
    unfolding Case
    low_case k m (inl h) =
        let P : CutAt → Length → Type 0 = λ j n. (0 < n.len) × (j.at.offset + n.len < 2 ^ 32) in
        subst (λ j. P j m) (sym h.0) (subst (P (key first)) h.1 (some, low))
    low_case k m (inr h) = is.low k m h

    apart_case : (k l : CutAt) (m n : Length) → Case k m → Case l n → k.at.change ≡ l.at.change → k.at.offset < l.at.offset → k.at.offset + m.len ≤ l.at.offset
    unfolding Case
    apart_case k l m n (inr h) (inr i) same less = is.apart k l m n h i same less
    apart_case k l m n (inl h) (inl i) same less =
        let e : k.at.offset ≡ first.offset = ap (λ (j : CutAt). j.at.offset) h.0 in
        let f : l.at.offset ≡ first.offset = ap (λ (j : CutAt). j.at.offset) i.0 in
        omega arith
    apart_case k l m n (inl h) (inr i) same less =
        let e : k.at.offset ≡ first.offset = ap (λ (j : CutAt). j.at.offset) h.0 in
        let name : first.change ≡ l.at.change = sym (ap (λ (j : CutAt). j.at.change) h.0) ∙ same in
        let size : len.len ≡ m.len = ap (λ (j : Length). j.len) h.1 in
        let pos = is.low l n i in
        let clash : l.at.offset < first.offset + len.len → ⊥ = λ within.
        free l.at.offset (omega arith) within l.at.offset (l.at.offset + n.len)
        (subst (λ (x : Name). InBlock table x l.at.offset l.at.offset (l.at.offset + n.len)) (sym name) (in_block l n l.at.offset i (omega arith) (omega arith))) in
        not_below (k.at.offset + m.len) l.at.offset (λ below. clash (omega arith))
    apart_case k l m n (inr h) (inl i) same less =
        let e : l.at.offset ≡ first.offset = ap (λ (j : CutAt). j.at.offset) i.0 in
        let name : k.at.change ≡ first.change = same ∙ ap (λ (j : CutAt). j.at.change) i.0 in
        not_below (k.at.offset + m.len) l.at.offset (λ below.
        free first.offset (omega arith) (omega arith) k.at.offset (k.at.offset + m.len)
        (subst (λ (x : Name). InBlock table x first.offset k.at.offset (k.at.offset + m.len)) name (in_block k m first.offset h (omega arith) (omega arith))))

    pub blocks_with : IsRising cut_cmp (with_pair cut_cmp (key first) len blocks) → IsCounted counts (with_pair cut_cmp (key first) len blocks)
    blocks_with rise = record {
      counts_kept = is.counts_kept;
      blocks_rise = rise;
      low = λ k m h. low_case k m (case k m h);
      apart = λ k l m n h i same. apart_case k l m n (case k m h) (case l n i) same;
    }
