-- The first vertex from a position on.
use Rattle.std.proofs.Common.{◌≡◌, subst, refl, ℕ, ◌+◌, ◌<◌, ◌≤◌, true, false, arith, ◌⊎◌, inl, inr, Option, Some, None, MatchOption}
use Rattle.pj_name.specs.declared.name.Name.{Name}
use Rattle.pj_cuts.specs.Counted.{Counted, at_offset, length_at, is_counted, IsCounted, InBlock}
use Rattle.pj_cuts.specs.CountedVertices.{IsBegin, IsNextVertex, IsPastAll}
use Rattle.pj_cuts.specs.Neighbours.{IsNextCut, IsEnd, IsFirstOfNext}
use Rattle.pj_cuts.proofs.Neighbours.{block_found}
use Rattle.pj_cuts.proofs.Kept.{not_below}

-- blocks that have one position are one
module _ (c : Counted) (kept : IsCounted c.counts c.blocks) (n : Name) where
  pub block_once : (o f p g q : ℕ) → InBlock c n o f p → InBlock c n o g q → g ≤ f
  block_once o f p g q a b =
      not_below g f (λ less.
      let x = block_found c.counts c.blocks kept n o f p a in
      let y = block_found c.counts c.blocks kept n o g q b in
      let before = kept.apart (record { at = at_offset n f }) (record { at = at_offset n g }) x.0 y.0 x.1 y.1 refl less in
      let size = x.2 in
      let upto = a.upto in
      let from = b.from in omega arith)

  block_ends : (o f p g q : ℕ) → InBlock c n o f p → InBlock c n o g q → (g ≡ f) × (q ≡ p)
  block_ends o f p g q a b =
      let one = block_once o f p g q a b in
      let two = block_once o g q f p b a in
      let same : g ≡ f = omega arith in
      let size : f + length_at c (at_offset n f) ≡ q = subst (λ (x : ℕ). x + length_at c (at_offset n x) ≡ q) same b.block in
      let mine = a.block in
      (same, omega arith)

  module _ (at f p : ℕ) (has : InBlock c n at f p) where
    -- a vertex that begins in the block after its first position begins at a cut
    begins_at_cut : (o : ℕ) → f < at ⊎ (at < o) → at ≤ o → o < p → IsBegin c n o → is_counted c n o ≡ true
    begins_at_cut o past_first low high b =
        let from = has.from in
        let mine : InBlock c n o f p = record { from = omega arith; upto = high; block = has.block } in
        let same = block_ends o f p b.first b.past mine b.block in
        by_case same.0 past_first b.begins
      where
        by_case : b.first ≡ f → f < at ⊎ (at < o) → (o ≡ b.first) ⊎ (is_counted c n o ≡ true) → is_counted c n o ≡ true
        by_case same (inl l) (inl e) = absurd (omega arith)
        by_case same (inr l) (inl e) = let from = has.from in absurd (omega arith)
        by_case same l (inr t) = t

    -- no vertex begins from here up to the next cut of the block
    none_before : (o past : ℕ) → (f ≡ at → ⊥) → is_counted c n at ≡ false → past ≤ p → ((k : ℕ) → at < k → k < past → is_counted c n k ≡ false) → at ≤ o → o < past → IsBegin c n o → ⊥
    none_before o past other uncounted within none low high b =
        let from = has.from in
        let t = begins_at_cut o (inl (strict f at has.from other)) low (omega arith) b in
        by_side (side at o low) t
      where
        side : (a b : ℕ) → a ≤ b → (a ≡ b) ⊎ (a < b)
        side a b l = grind arith

        strict : (a b : ℕ) → a ≤ b → (a ≡ b → ⊥) → a < b
        strict a b l d = elim (side a b l) [ inl e ↦ absurd (d e) | inr m ↦ m ]

        by_side : (at ≡ o) ⊎ (at < o) → is_counted c n o ≡ true → ⊥
        by_side (inl e) t = let z : is_counted c n o ≡ false = subst (λ (x : ℕ). is_counted c n x ≡ false) e uncounted in cc
        by_side (inr l) t = let z : is_counted c n o ≡ false = none o l high in cc

    pub next_cut : (cut end : ℕ) → (f ≡ at → ⊥) → is_counted c n at ≡ false → IsNextCut c n at cut → cut < p → IsEnd c n cut p end → IsNextVertex c n at cut end
    next_cut cut end other uncounted is within e =
        let from = has.from in
        let above = is.above in
        record {
          low = omega arith;
          first = f;
          past = p;
          run = record { nonempty = e.above; begins = inr is.counted; ends = e.ends; inside = (omega arith, e.inside); uncut = λ k l m. e.first k l m; block = has.block };
          least = λ o a b g. none_before o cut other uncounted (omega arith) is.first a b g;
        }

    -- none begins before the next block
    none_between : (past : ℕ) → (f ≡ at → ⊥) → is_counted c n at ≡ false → ((k : ℕ) → at < k → k < p → is_counted c n k ≡ false) → (o : ℕ) → ((g : ℕ) → at < g → g ≤ o → length_at c (at_offset n g) ≡ 0) → at ≤ o → IsBegin c n o → ⊥
    none_between past other uncounted none o free low b =
        elim (side o p) [ inl l ↦ none_before o p other uncounted (omega arith) none low l b | inr m ↦ by_first (side at b.first) m ]
      where
        side : (a b : ℕ) → (a < b) ⊎ (b ≤ a)
        side a b = grind arith

        by_first : (at < b.first) ⊎ (b.first ≤ at) → p ≤ o → ⊥
        by_first (inl l) m = let empty = free b.first l b.block.from in let size = b.block.block in let upto = b.block.upto in let from = b.block.from in omega arith
        by_first (inr l) m =
            let upto = b.block.upto in
            let mine : InBlock c n at b.first b.past = record { from = l; upto = omega arith; block = b.block.block } in
            let same = block_ends at f p b.first b.past has mine in
            let ends = same.1 in omega arith

    pub next_after_block : (start end : ℕ) → (f ≡ at → ⊥) → is_counted c n at ≡ false → ((k : ℕ) → at < k → k < p → is_counted c n k ≡ false) → IsFirstOfNext c n at start end → IsNextVertex c n at start end
    next_after_block start end other uncounted none is =
        let above = is.above in
        record { low = omega arith; first = start; past = is.past; run = is.run; least = λ o a b g. none_between 0 other uncounted none o (λ h l m. is.least h l (omega arith)) a g }

    pub last_block : (f ≡ at → ⊥) → is_counted c n at ≡ false → ((k : ℕ) → at < k → k < p → is_counted c n k ≡ false) → ((o : ℕ) → at < o → length_at c (at_offset n o) ≡ 0) → IsPastAll c n at
    last_block other uncounted none empty = λ o a g. none_between 0 other uncounted none o (λ h l m. empty h l) a g

-- where no block has the position
module _ (c : Counted) (n : Name) (at : ℕ) (outside : (f p : ℕ) → InBlock c n at f p → ⊥) where
  none_out : (o : ℕ) → ((g : ℕ) → at < g → g ≤ o → length_at c (at_offset n g) ≡ 0) → at ≤ o → IsBegin c n o → ⊥
  none_out o free low b = by_first (side at b.first)
    where
      side : (a b : ℕ) → (a < b) ⊎ (b ≤ a)
      side a b = grind arith

      by_first : (at < b.first) ⊎ (b.first ≤ at) → ⊥
      by_first (inl l) = let empty = free b.first l b.block.from in let size = b.block.block in let upto = b.block.upto in let from = b.block.from in omega arith
      by_first (inr l) = let upto = b.block.upto in outside b.first b.past (record { from = l; upto = omega arith; block = b.block.block })

  out_some : (start end : ℕ) → IsFirstOfNext c n at start end → IsNextVertex c n at start end
  out_some start end is = let above = is.above in record { low = omega arith; first = start; past = is.past; run = is.run; least = λ o a b g. none_out o (λ h l m. is.least h l (omega arith)) a g }

  pub out_match : (r : Option (ℕ × ℕ)) → MatchOption r ((o : ℕ) → at < o → length_at c (at_offset n o) ≡ 0) (λ q. IsFirstOfNext c n at q.0 q.1) → MatchOption r (IsPastAll c n at) (λ q. IsNextVertex c n at q.0 q.1)
  out_match None h = λ o a g. none_out o (λ k l m. h k l) a g
  out_match (Some q) h = out_some q.0 q.1 h

pub in_match : (c : Counted) (kept : IsCounted c.counts c.blocks) (n : Name) (at f p : ℕ) (has : InBlock c n at f p) → (f ≡ at → ⊥) → is_counted c n at ≡ false → ((k : ℕ) → at < k → k < p → is_counted c n k ≡ false) →
    (r : Option (ℕ × ℕ)) → MatchOption r ((o : ℕ) → at < o → length_at c (at_offset n o) ≡ 0) (λ q. IsFirstOfNext c n at q.0 q.1) → MatchOption r (IsPastAll c n at) (λ q. IsNextVertex c n at q.0 q.1)
in_match c kept n at f p has other uncounted none None h = last_block c kept n at f p has other uncounted none h
in_match c kept n at f p has other uncounted none (Some q) h = next_after_block c kept n at f p has q.0 q.1 other uncounted none h
