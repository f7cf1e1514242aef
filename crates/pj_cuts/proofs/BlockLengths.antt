-- The blocks of a change, hunk by hunk.
use Rattle.std.proofs.Common.{◌≡◌, ◌∙◌, sym, ap, subst, refl, ℕ, zero, suc, ◌+◌, ◌<◌, ◌≤◌, Bool, true, false, List, [], ◌∷◌, ◌++◌, cond, arith, length, get_or, take, drop, nat_eq, sum_by, ◌⊎◌, inl, inr}
use Rattle.std.proofs.lemmas.Bool.Decides.{nat_tests}
use Rattle.std.proofs.lemmas.List.{take_all}
use Rattle.std.proofs.lemmas.List.Sums.{sum_by-cons}
use Rattle.pj_name.specs.declared.name.Name.{Name}
use Rattle.pj_name.specs.Name.{same_name}
use Rattle.pj_change.specs.declared.point.Point.{Point}
use Rattle.pj_change.specs.declared.hunk.Hunk.{Hunk}
use Rattle.pj_change.specs.declared.hunk.Hunk.TheVariants.{File, Dir, NameOf, Insert, Order, Delete, Revive}
use Rattle.pj_change.specs.Rules.{position_count}
use Rattle.pj_change.specs.Positions.{place}
use Rattle.pj_change.proofs.TakenLists.{taken_more, taken_split}
use Rattle.pj_change.proofs.EqualNames.{name_itself}
use Rattle.pj_cuts.specs.Counted.{Counted, at_offset, length_at, InNoBlock}
use Rattle.pj_cuts.specs.CutsOf.{block_here, block_at, block_from}

here_other : (h : Hunk) (first at : ℕ) → at < first → block_here h first at ≡ 0
here_other (File parent name exec) first at l = refl
here_other (Dir parent name) first at l = refl
here_other (NameOf parent child name exec) first at l = refl
here_other (Insert file ups downs bytes) first at l = grind (arith, nat_tests)
here_other (Order file source target) first at l = refl
here_other (Delete owner start end by) first at l = refl
here_other (Revive owner start end by) first at l = refl

-- no block begins before the first position
pub block_low : (hs : List Hunk) (first at : ℕ) → at < first → block_from first hs at ≡ 0
unfolding block_from
block_low [] first at l = refl
block_low (h ∷ hs) first at l = let a = here_other h first at l in let b = block_low hs (first + position_count h) at (omega arith) in omega (arith, a, b)

pub block_append : (xs ys : List Hunk) (first at : ℕ) → block_from first (xs ++ ys) at ≡ block_from first xs at + block_from (first + sum_by position_count xs) ys at
unfolding block_from
block_append [] ys first at =
    let e : first ≡ first + 0 = omega arith in
    omega (arith, ap (λ f. block_from f ys at) e)
block_append (h ∷ xs) ys first at =
    let rest = block_append xs ys (first + position_count h) at in
    let total : first + sum_by position_count (h ∷ xs) ≡ first + position_count h + sum_by position_count xs = omega (arith, sum_by-cons position_count h xs) in
    rw total (omega (arith, rest))

pub block_one : (h : Hunk) (first at : ℕ) → block_from first (h ∷ []) at ≡ block_here h first at
unfolding block_from
block_one h first at = omega arith

pub block_cons : (h : Hunk) (hs : List Hunk) (first at : ℕ) → block_from first (h ∷ hs) at ≡ block_here h first at + block_from (first + position_count h) hs at
unfolding block_from
block_cons h hs first at = refl

module _ (hs : List Hunk) (i : ℕ) (h : Hunk) (low : i < length hs) (is : h ≡ get_or hs i h) where
  -- one hunk more
  pub block_more : (at : ℕ) → block_from 0 (take (i + 1) hs) at ≡ block_from 0 (take i hs) at + block_here h (place hs i) at
  block_more at =
      let start : 0 + place hs i ≡ place hs i = omega arith in
      ap (λ l. block_from 0 l at) (taken_more hs i h low is) ∙ block_append (take i hs) (h ∷ []) 0 at
      ∙ ap (λ n. block_from 0 (take i hs) at + n) (block_one h (0 + place hs i) at)
      ∙ ap (λ f. block_from 0 (take i hs) at + block_here h f at) start

  -- its block is the one that begins with its first position
  pub block_first : 0 < block_here h (place hs i) (place hs i) → 0 < position_count h → block_from 0 hs (place hs i) ≡ block_from 0 (take i hs) (place hs i) + block_here h (place hs i) (place hs i)
  block_first some count =
      let start : 0 + place hs i ≡ place hs i = omega arith in
      ap (λ l. block_from 0 l (place hs i)) (taken_split hs i h low is)
      ∙ block_append (take i hs) (h ∷ drop (suc i) hs) 0 (place hs i)
      ∙ ap (λ f. block_from 0 (take i hs) (place hs i) + block_from f (h ∷ drop (suc i) hs) (place hs i)) start
      ∙ (let one = block_cons h (drop (suc i) hs) (place hs i) (place hs i) in
      let none = block_low (drop (suc i) hs) (place hs i + position_count h) (place hs i) (omega arith) in
      omega (arith, one, none))

-- a hunk with a block has positions
pub count_some : (h : Hunk) (first : ℕ) → 0 < block_here h first first → 0 < position_count h
count_some (File parent name exec) first l = absurd (omega arith)
count_some (Dir parent name) first l = absurd (omega arith)
count_some (NameOf parent child name exec) first l = absurd (omega arith)
count_some (Insert file ups downs bytes) first l = grind (arith, nat_tests)
count_some (Order file source target) first l = absurd (omega arith)
count_some (Delete owner start end by) first l = absurd (omega arith)
count_some (Revive owner start end by) first l = absurd (omega arith)

-- a block has no more positions than its hunk
here_few : (h : Hunk) (first at : ℕ) → 0 < block_here h first at → (first ≡ at) × (block_here h first at ≡ position_count h)
here_few (File parent name exec) first at l = absurd (omega arith)
here_few (Dir parent name) first at l = absurd (omega arith)
here_few (NameOf parent child name exec) first at l = absurd (omega arith)
here_few (Insert file ups downs bytes) first at l = by (nat_eq first at) refl
  where
    by : (b : Bool) → nat_eq first at ≡ b → (first ≡ at) × (block_here (Insert file ups downs bytes) first at ≡ length bytes)
    by true e = (grind (arith, nat_tests), ap (λ b. cond b (length bytes) 0) e)
    by false e = absurd (let z : 0 < cond false (length bytes) 0 = rw e at l in omega (arith, z))
here_few (Order file source target) first at l = absurd (omega arith)
here_few (Delete owner start end by) first at l = absurd (omega arith)
here_few (Revive owner start end by) first at l = absurd (omega arith)

-- ---- by points

pub sum_more : (b : Bool) (k l m : ℕ) → m ≡ k + l → cond b k 0 + cond b l 0 ≡ cond b m 0
sum_more true k l m e = omega (arith, e)
sum_more false k l m e = refl

-- at a position of the change itself
pub block_own : (n : Name) (first at : ℕ) (h : Hunk) → block_at (at_offset n first) h (at_offset n at) ≡ block_here h first at
block_own n first at h = ap (λ b. cond b (block_here h first at) 0) (name_itself n)

-- before the first hunk there is none
pub none_yet : (b : Bool) (n at : ℕ) → n ≡ n + cond b (block_from 0 [] at) 0
unfolding block_from
none_yet true n at = omega arith
none_yet false n at = omega arith

pub none_gone : (b : Bool) (n at : ℕ) → n + cond b (block_from 0 [] at) 0 ≡ n
none_gone b n at = sym (none_yet b n at)

module _ (n : Name) (hs : List Hunk) (i : ℕ) (h : Hunk) (low : i < length hs) (is : h ≡ get_or hs i h) (first : ℕ) (e : first ≡ place hs i) where
  -- what one hunk more has
  pub block_step : (p : Point) →
      cond (same_name n p.change) (block_from 0 (take (i + 1) hs) p.offset) 0 ≡ cond (same_name n p.change) (block_from 0 (take i hs) p.offset) 0 + block_at (at_offset n first) h p
  block_step p = sym (sum_more (same_name n p.change) (block_from 0 (take i hs) p.offset) (block_here h first p.offset) (block_from 0 (take (i + 1) hs) p.offset)
      (block_more hs i h low is p.offset ∙ ap (λ f. block_from 0 (take i hs) p.offset + block_here h f p.offset) (sym e)))

  -- its block is there while those before it are gone
  pub there_now : (now self : ℕ) → now + cond (same_name n n) (block_from 0 (take i hs) first) 0 ≡ self → self ≡ block_from 0 hs first → 0 < block_here h first first → now ≡ block_here h first first
  there_now now self gone whole some =
      let own = ap (λ b. cond b (block_from 0 (take i hs) first) 0) (name_itself n) in
      let split : block_from 0 hs first ≡ block_from 0 (take i hs) first + block_here h first first =
      subst (λ f. 0 < block_here h f f → block_from 0 hs f ≡ block_from 0 (take i hs) f + block_here h f f) (sym e) (λ s. block_first hs i h low is s (count_some h (place hs i) s)) some in
      omega (arith, gone, whole, own, split)

-- all of them
pub block_all : (b : Bool) (hs : List Hunk) (i : ℕ) → length hs ≡ i → (at : ℕ) → cond b (block_from 0 (take i hs) at) 0 ≡ cond b (block_from 0 hs at) 0
block_all b hs i all at = ap (λ l. cond b (block_from 0 l at) 0) (take_all i hs (omega arith))

-- ---- no block from a position on

-- a further block leaves what is behind it free
pub free_on : (c d : Counted) (n : Name) (first : ℕ) (h : Hunk) → ((p : Point) → length_at d p ≡ length_at c p + block_at (at_offset n first) h p) →
    ((at : ℕ) → first ≤ at → InNoBlock c n at) → (at : ℕ) → first + position_count h ≤ at → InNoBlock d n at
free_on c d n first h more free at l f q b = by (sum_cases (length_at c (at_offset n f)) (block_here h first f) (length_at d (at_offset n f)) same some)
  where
    same : length_at d (at_offset n f) ≡ length_at c (at_offset n f) + block_here h first f
    same = more (at_offset n f) ∙ ap (λ k. length_at c (at_offset n f) + k) (block_own n first f h)

    some : 0 < length_at d (at_offset n f)
    some = let from = b.from in let upto = b.upto in let block = b.block in omega (arith, from, upto, block)

    sum_cases : (k l m : ℕ) → m ≡ k + l → 0 < m → (l ≡ 0) ⊎ (0 < l)
    sum_cases k zero m e s = inl refl
    sum_cases k (suc l) m e s = inr (omega arith)

    by : (block_here h first f ≡ 0) ⊎ (0 < block_here h first f) → ⊥
    by (inl none) =
        let block : f + length_at c (at_offset n f) ≡ q = let e = b.block in omega (arith, same, none, e) in
        free at (omega arith) f q (record { from = b.from; upto = b.upto; block = block })
    by (inr has) =
        let few = here_few h first f has in
        let first_is : first ≡ f = few.0 in
        let old : (length_at c (at_offset n f) ≡ 0) ⊎ (0 < length_at c (at_offset n f)) = zero_or (length_at c (at_offset n f)) in
        by_old old few.1
      where
        zero_or : (k : ℕ) → (k ≡ 0) ⊎ (0 < k)
        zero_or zero = inl refl
        zero_or (suc k) = inr (omega arith)

        by_old : (length_at c (at_offset n f) ≡ 0) ⊎ (0 < length_at c (at_offset n f)) → block_here h first f ≡ position_count h → ⊥
        by_old (inl none) size = let upto = b.upto in let e = b.block in let few = here_few h first f has in let at_first : first ≡ f = few.0 in omega (arith, same, none, size, e, upto, at_first, l)
        by_old (inr old) size =
            let few = here_few h first f has in
            free f (let at_first : first ≡ f = few.0 in omega (arith, at_first)) f (f + length_at c (at_offset n f)) (record { from = omega arith; upto = omega arith; block = refl })
