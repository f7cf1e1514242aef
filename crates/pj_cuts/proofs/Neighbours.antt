-- Neighbours of a position among the counted cuts and the blocks.
use Rattle.std.proofs.Common.{◌≡◌, ◌∙◌, sym, ap, subst, refl, ℕ, ◌+◌, ◌<◌, ◌≤◌, ◌^◌, Bool, true, false, List, Option, Some, None, arith, ◌⊎◌, inl, inr, nat_lt}
use Rattle.std.specs.Ordering.{is_lt, nat_cmp, ordering_then}
use Rattle.std.specs.declared.cmp.Ordering.{Ordering}
use Rattle.std.specs.declared.cmp.Ordering.TheVariants.{Less, Equal, Greater}
use Rattle.std.proofs.lemmas.Bool.Decides.{nat_tests}
use Rattle.std.proofs.lemmas.Cmp.{tied_itself}
use Rattle.pj_name.specs.declared.name.Name.{Name}
use Rattle.pj_name.specs.Name.{name_cmp}
use Rattle.pj_name.proofs.Names.{name_cmp-total}
use Rattle.pj_change.specs.declared.point.Point.{Point}
use Rattle.pj_change.specs.Graph.{point_cmp}
use Rattle.pj_change.proofs.EqualNames.{name_tied}
use Rattle.pj_pmap.specs.Pairs.{value_at, floor_of, next_of}
use Rattle.pj_pmap.proofs.Order.{greater_back, less_back}
use Rattle.pj_rows.specs.declared.values.Count.{Count}
use Rattle.pj_rows.specs.Keys.{amount}
use Rattle.pj_rows.specs.Found.{IsFloorFound, IsNextFound}
use Rattle.pj_rows.proofs.FoundLemmas.{floor_found, none_below, next_found, none_above}
use Rattle.pj_cuts.specs.declared.keys.CutAt.{CutAt}
use Rattle.pj_cuts.specs.declared.keys.Length.{Length}
use Rattle.pj_cuts.specs.Counted.{Counted, cut_cmp, key, extent, at_offset, length_at, is_counted, IsCounted, InBlock}
use Rattle.pj_cuts.specs.Neighbours.{IsLastCut, IsNextCut, IsNextBlock}
use Rattle.pj_cuts.proofs.CutOrder.{cut_total}

-- positions of one change compare as numbers
offset_cmp : (n : Name) (a b : ℕ) → point_cmp (at_offset n a) (at_offset n b) ≡ nat_cmp a b
offset_cmp n a b = ap (λ c. ordering_then c (nat_cmp a b)) (tied_itself name_cmp-total n)

upto_not_less : (n : Name) (a b : ℕ) → is_lt (point_cmp (at_offset n a) (at_offset n b)) ≡ false → b ≤ a
upto_not_less n a b h = let e : is_lt (nat_cmp a b) ≡ false = sym (ap is_lt (offset_cmp n a b)) ∙ h in grind (arith, nat_tests)

not_less_upto : (n : Name) (a b : ℕ) → b ≤ a → is_lt (point_cmp (at_offset n a) (at_offset n b)) ≡ false
not_less_upto n a b h = ap is_lt (offset_cmp n a b) ∙ (grind (arith, nat_tests))

below_less : (n : Name) (a b : ℕ) → point_cmp (at_offset n a) (at_offset n b) ≡ Less → a < b
below_less n a b h = let e : nat_cmp a b ≡ Less = sym (offset_cmp n a b) ∙ h in grind (arith, nat_tests)

less_below : (n : Name) (a b : ℕ) → a < b → point_cmp (at_offset n a) (at_offset n b) ≡ Less
less_below n a b h = offset_cmp n a b ∙ (grind (arith, nat_tests))

-- a point between two of a change is of that change
squeeze : (n : Name) (k : Point) (a b : ℕ) → is_lt (point_cmp k (at_offset n a)) ≡ false → is_lt (point_cmp (at_offset n b) k) ≡ false → k.change ≡ n
squeeze n k a b low high = by_order (name_cmp k.change n) refl low
  where
    by_order : (c : Ordering) → name_cmp k.change n ≡ c → is_lt (ordering_then c (nat_cmp k.offset a)) ≡ false → k.change ≡ n
    by_order Less t l = absurd (cc)
    by_order Equal t l = name_tied k.change n t
    by_order Greater t l =
        let less : name_cmp n k.change ≡ Less = less_back name_cmp-total k.change n t in
        let clash : true ≡ false = sym (ap (λ c. is_lt (ordering_then c (nat_cmp b k.offset))) less) ∙ high in
        absurd (cc)

no_more : (b : Bool) → (b ≡ true → ⊥) → b ≡ false
no_more true h = absurd (h refl)
no_more false h = refl

module _ (counts : List (CutAt × Count)) (blocks : List (CutAt × Length)) (is : IsCounted counts blocks) where
  abbrev whole : Counted
  whole = record { counts = counts; blocks = blocks }

  counted_found : (n : Name) (j : ℕ) → is_counted whole n j ≡ true → (w : Count) × (value_at cut_cmp (key (at_offset n j)) counts ≡ Some w)
  counted_found n j h = by_value (value_at cut_cmp (key (at_offset n j)) counts) refl h
    where
      by_value : (v : Option Count) → value_at cut_cmp (key (at_offset n j)) counts ≡ v → nat_lt 0 (amount v) ≡ true → (w : Count) × (value_at cut_cmp (key (at_offset n j)) counts ≡ Some w)
      by_value None e t = cc
      by_value (Some w) e t = (w, e)

  found_counted : (k : CutAt) (w : Count) → value_at cut_cmp k counts ≡ Some w → is_counted whole k.at.change k.at.offset ≡ true
  found_counted k w h = let some = is.counts_kept.some k w h in let e : nat_lt 0 w.count ≡ true = grind (arith, nat_tests) in ap (λ v. nat_lt 0 (amount v)) h ∙ e

  -- a block that has a position is found by its first one
  pub block_found : (n : Name) (at f p : ℕ) → InBlock whole n at f p → (w : Length) × (value_at cut_cmp (key (at_offset n f)) blocks ≡ Some w) × (f + w.len ≡ p)
  block_found n at f p h = by_value (value_at cut_cmp (key (at_offset n f)) blocks) refl h.block
    where
      by_value : (v : Option Length) → value_at cut_cmp (key (at_offset n f)) blocks ≡ v → f + extent v ≡ p → (w : Length) × (value_at cut_cmp (key (at_offset n f)) blocks ≡ Some w) × (f + w.len ≡ p)
      by_value None e t = let a = h.from in let b = h.upto in absurd (omega arith)
      by_value (Some w) e t = (w, e, t)

  module _ (n : Name) (at : ℕ) where
    -- ---- the cut before

    pub floor_none : floor_of cut_cmp (key (at_offset n at)) counts ≡ None → (k : ℕ) → k ≤ at → is_counted whole n k ≡ false
    floor_none e k low = no_more (is_counted whole n k) (λ t.
        let found = counted_found n k t in
        let fact = none_below cut_cmp cut_total (key (at_offset n at)) counts is.counts_kept.rising e in
        let l : at < k = below_less n at k (fact (key (at_offset n k)) found.0 found.1) in absurd (omega arith))

    floor_is : (k : CutAt) (m : Count) → floor_of cut_cmp (key (at_offset n at)) counts ≡ Some (k, m) → IsFloorFound cut_cmp (key (at_offset n at)) counts (k, m)
    floor_is k m e = floor_found cut_cmp cut_total (key (at_offset n at)) counts (k, m) is.counts_kept.rising e

    pub floor_other : (k : CutAt) (m : Count) → floor_of cut_cmp (key (at_offset n at)) counts ≡ Some (k, m) → (k.at.change ≡ n → ⊥) → (j : ℕ) → j ≤ at → is_counted whole n j ≡ false
    floor_other k m e other j low = no_more (is_counted whole n j) (λ t.
        let found = counted_found n j t in
        let r = floor_is k m e in
        other (squeeze n k.at j at (r.last (key (at_offset n j)) found.0 found.1 (not_less_upto n at j low)) r.low))

  pub floor_same : (k : CutAt) (m : Count) (at : ℕ) → floor_of cut_cmp (key (at_offset k.at.change at)) counts ≡ Some (k, m) → IsLastCut whole k.at.change at k.at.offset
  floor_same k m at e = let r = floor_is k.at.change at k m e in record {
    low = upto_not_less k.at.change at k.at.offset r.low;
    counted = found_counted k m r.found;
    last = λ j above low. no_more (is_counted whole k.at.change j) (λ t.
        let found = counted_found k.at.change j t in
        let l = upto_not_less k.at.change k.at.offset j (r.last (key (at_offset k.at.change j)) found.0 found.1 (not_less_upto k.at.change at j low)) in absurd (omega arith));
  }

  -- ---- the cut after

  module _ (n : Name) (at : ℕ) where
    next_is : (k : CutAt) (m : Count) → next_of cut_cmp (key (at_offset n at)) counts ≡ Some (k, m) → IsNextFound cut_cmp (key (at_offset n at)) counts (k, m)
    next_is k m e = next_found cut_cmp cut_total (key (at_offset n at)) counts (k, m) is.counts_kept.rising e

    pub next_none : next_of cut_cmp (key (at_offset n at)) counts ≡ None → (k : ℕ) → at < k → is_counted whole n k ≡ false
    next_none e k above = no_more (is_counted whole n k) (λ t.
        let found = counted_found n k t in
        let fact = none_above cut_cmp cut_total (key (at_offset n at)) counts e in
        let l : k ≤ at = upto_not_less n at k (fact (key (at_offset n k)) found.0 found.1) in absurd (omega arith))

    pub next_other : (k : CutAt) (m : Count) → next_of cut_cmp (key (at_offset n at)) counts ≡ Some (k, m) → (k.at.change ≡ n → ⊥) → (j : ℕ) → at < j → is_counted whole n j ≡ false
    next_other k m e other j above = no_more (is_counted whole n j) (λ t.
        let found = counted_found n j t in
        let r = next_is k m e in
        other (squeeze n k.at at j (ap is_lt (greater_back cut_total (key (at_offset n at)) k r.above)) (r.first (key (at_offset n j)) found.0 found.1 (less_below n at j above))))

  pub next_same : (k : CutAt) (m : Count) (at : ℕ) → next_of cut_cmp (key (at_offset k.at.change at)) counts ≡ Some (k, m) → IsNextCut whole k.at.change at k.at.offset
  next_same k m at e = let r = next_is k.at.change at k m e in record {
    above = below_less k.at.change at k.at.offset r.above;
    counted = found_counted k m r.found;
    first = λ j above low. no_more (is_counted whole k.at.change j) (λ t.
        let found = counted_found k.at.change j t in
        let l = upto_not_less k.at.change j k.at.offset (r.first (key (at_offset k.at.change j)) found.0 found.1 (less_below k.at.change at j above)) in absurd (omega arith));
  }

  -- ---- the block of a position

  module _ (n : Name) (at : ℕ) where
    block_is : (k : CutAt) (m : Length) → floor_of cut_cmp (key (at_offset n at)) blocks ≡ Some (k, m) → IsFloorFound cut_cmp (key (at_offset n at)) blocks (k, m)
    block_is k m e = floor_found cut_cmp cut_total (key (at_offset n at)) blocks (k, m) is.blocks_rise e

    pub block_none : floor_of cut_cmp (key (at_offset n at)) blocks ≡ None → (f p : ℕ) → InBlock whole n at f p → ⊥
    block_none e f p h =
        let found = block_found n at f p h in
        let fact = none_below cut_cmp cut_total (key (at_offset n at)) blocks is.blocks_rise e in
        let l : at < f = below_less n at f (fact (key (at_offset n f)) found.0 found.1) in
        let from = h.from in omega arith

    pub block_other : (k : CutAt) (m : Length) → floor_of cut_cmp (key (at_offset n at)) blocks ≡ Some (k, m) → (k.at.change ≡ n → ⊥) → (f p : ℕ) → InBlock whole n at f p → ⊥
    block_other k m e other f p h =
        let found = block_found n at f p h in
        let r = block_is k m e in
        other (squeeze n k.at f at (r.last (key (at_offset n f)) found.0 found.1 (not_less_upto n at f h.from)) r.low)

    pub block_fits : (k : CutAt) (m : Length) → floor_of cut_cmp (key (at_offset n at)) blocks ≡ Some (k, m) → (0 < m.len) × (k.at.offset + m.len < 2 ^ 32)
    block_fits k m e = is.low k m (block_is k m e).found

  pub block_past : (k : CutAt) (m : Length) (at : ℕ) → floor_of cut_cmp (key (at_offset k.at.change at)) blocks ≡ Some (k, m) → k.at.offset + m.len ≤ at → (f p : ℕ) → InBlock whole k.at.change at f p → ⊥
  block_past k m at e past f p h =
      let n = k.at.change in
      let found = block_found n at f p h in
      let r = block_is n at k m e in
      let from = h.from in
      let upto = h.upto in
      let low = upto_not_less n at k.at.offset r.low in
      let first = upto_not_less n k.at.offset f (r.last (key (at_offset n f)) found.0 found.1 (not_less_upto n at f from)) in
      by_place (f_before f k.at.offset first) r.found found.1 found.2 upto low
    where
      f_before : (f o : ℕ) → f ≤ o → (f ≡ o) ⊎ (f < o)
      f_before f o h = grind arith

      by_place : (f ≡ k.at.offset) ⊎ (f < k.at.offset) → value_at cut_cmp k blocks ≡ Some m → {w : Length} → value_at cut_cmp (key (at_offset k.at.change f)) blocks ≡ Some w → f + w.len ≡ p → at < p → k.at.offset ≤ at → ⊥
      by_place (inl same) mine {w} other size upto low =
          let one : Some m ≡ Some w = sym mine ∙ subst (λ (o : ℕ). value_at cut_cmp (key (at_offset k.at.change o)) blocks ≡ Some w) same other in
          let len : m ≡ w = cc in
          let lens : m.len ≡ w.len = ap (λ l. l.len) len in
          omega arith
      by_place (inr less) mine {w} other size upto low =
          let a = is.apart (key (at_offset k.at.change f)) k w m other mine refl less in omega arith

  pub block_same : (k : CutAt) (m : Length) (at : ℕ) → floor_of cut_cmp (key (at_offset k.at.change at)) blocks ≡ Some (k, m) → at < k.at.offset + m.len → InBlock whole k.at.change at k.at.offset (k.at.offset + m.len)
  block_same k m at e upto = let r = block_is k.at.change at k m e in
      record { from = upto_not_less k.at.change at k.at.offset r.low; upto = upto; block = ap (λ v. k.at.offset + extent v) r.found }

  -- ---- the block after

  no_length : (n : Name) (o : ℕ) → ((w : Length) → value_at cut_cmp (key (at_offset n o)) blocks ≡ Some w → ⊥) → length_at whole (at_offset n o) ≡ 0
  no_length n o none = by_value (value_at cut_cmp (key (at_offset n o)) blocks) refl
    where
      by_value : (v : Option Length) → value_at cut_cmp (key (at_offset n o)) blocks ≡ v → extent (value_at cut_cmp (key (at_offset n o)) blocks) ≡ 0
      by_value None e = ap extent e
      by_value (Some w) e = absurd (none w e)

  module _ (n : Name) (at : ℕ) where
    after_is : (k : CutAt) (m : Length) → next_of cut_cmp (key (at_offset n at)) blocks ≡ Some (k, m) → IsNextFound cut_cmp (key (at_offset n at)) blocks (k, m)
    after_is k m e = next_found cut_cmp cut_total (key (at_offset n at)) blocks (k, m) is.blocks_rise e

    pub after_none : next_of cut_cmp (key (at_offset n at)) blocks ≡ None → (o : ℕ) → at < o → length_at whole (at_offset n o) ≡ 0
    after_none e o above = no_length n o (λ w found.
        let fact = none_above cut_cmp cut_total (key (at_offset n at)) blocks e in
        let l : o ≤ at = upto_not_less n at o (fact (key (at_offset n o)) w found) in omega arith)

    pub after_other : (k : CutAt) (m : Length) → next_of cut_cmp (key (at_offset n at)) blocks ≡ Some (k, m) → (k.at.change ≡ n → ⊥) → (o : ℕ) → at < o → length_at whole (at_offset n o) ≡ 0
    after_other k m e other o above = no_length n o (λ w found.
        let r = after_is k m e in
        other (squeeze n k.at at o (ap is_lt (greater_back cut_total (key (at_offset n at)) k r.above)) (r.first (key (at_offset n o)) w found (less_below n at o above))))

    pub after_fits : (k : CutAt) (m : Length) → next_of cut_cmp (key (at_offset n at)) blocks ≡ Some (k, m) → (0 < m.len) × (k.at.offset + m.len < 2 ^ 32)
    after_fits k m e = is.low k m (after_is k m e).found

  pub after_same : (k : CutAt) (m : Length) (at : ℕ) → next_of cut_cmp (key (at_offset k.at.change at)) blocks ≡ Some (k, m) → IsNextBlock whole k.at.change at k.at.offset (k.at.offset + m.len)
  after_same k m at e = let r = after_is k.at.change at k m e in let fits = is.low k m r.found in record {
    above = below_less k.at.change at k.at.offset r.above;
    some = omega arith;
    block = ap (λ v. k.at.offset + extent v) r.found;
    least = λ o above low. no_length k.at.change o (λ w found.
        let l = upto_not_less k.at.change o k.at.offset (r.first (key (at_offset k.at.change o)) w found (less_below k.at.change at o above)) in omega arith);
  }

  -- ---- the same, at a name that the key has

  module _ (n : Name) (at : ℕ) (k : CutAt) (same : k.at.change ≡ n) where
    pub floor_named : (m : Count) → floor_of cut_cmp (key (at_offset n at)) counts ≡ Some (k, m) → IsLastCut whole n at k.at.offset
    floor_named m = subst (λ (x : Name). floor_of cut_cmp (key (at_offset x at)) counts ≡ Some (k, m) → IsLastCut whole x at k.at.offset) same (floor_same k m at)

    pub next_named : (m : Count) → next_of cut_cmp (key (at_offset n at)) counts ≡ Some (k, m) → IsNextCut whole n at k.at.offset
    next_named m = subst (λ (x : Name). next_of cut_cmp (key (at_offset x at)) counts ≡ Some (k, m) → IsNextCut whole x at k.at.offset) same (next_same k m at)

    pub past_named : (m : Length) → floor_of cut_cmp (key (at_offset n at)) blocks ≡ Some (k, m) → k.at.offset + m.len ≤ at → (f p : ℕ) → InBlock whole n at f p → ⊥
    past_named m = subst (λ (x : Name). floor_of cut_cmp (key (at_offset x at)) blocks ≡ Some (k, m) → k.at.offset + m.len ≤ at → (f p : ℕ) → InBlock whole x at f p → ⊥) same (block_past k m at)

    pub block_named : (m : Length) → floor_of cut_cmp (key (at_offset n at)) blocks ≡ Some (k, m) → at < k.at.offset + m.len → InBlock whole n at k.at.offset (k.at.offset + m.len)
    block_named m = subst (λ (x : Name). floor_of cut_cmp (key (at_offset x at)) blocks ≡ Some (k, m) → at < k.at.offset + m.len → InBlock whole x at k.at.offset (k.at.offset + m.len)) same (block_same k m at)

    pub after_named : (m : Length) → next_of cut_cmp (key (at_offset n at)) blocks ≡ Some (k, m) → IsNextBlock whole n at k.at.offset (k.at.offset + m.len)
    after_named m = subst (λ (x : Name). next_of cut_cmp (key (at_offset x at)) blocks ≡ Some (k, m) → IsNextBlock whole x at k.at.offset (k.at.offset + m.len)) same (after_same k m at)
