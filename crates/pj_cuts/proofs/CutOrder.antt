-- The order of the keys, and what is seen at a point after a change of the table.
use Rattle.std.proofs.Common.{◌≡◌, ◌∙◌, sym, ap, refl, ℕ, ◌+◌, Bool, true, false, ◌&&◌, List, [], ◌∷◌, Some, None, cond, arith, nat_eq}
use Rattle.std.specs.Cmp.{IsTotalOrder}
use Rattle.std.specs.Ordering.{is_eq, nat_cmp, ordering_then, ordering_reverse}
use Rattle.std.specs.declared.cmp.Ordering.{Ordering}
use Rattle.std.specs.declared.cmp.Ordering.TheVariants.{Less, Equal, Greater}
use Rattle.std.proofs.lemmas.Cmp.{on_total}
use Rattle.std.proofs.lemmas.Map.Text.{is_eq-slice_cmp}
use Rattle.pj_name.specs.Name.{name_cmp}
use Rattle.pj_change.specs.declared.point.Point.{Point}
use Rattle.pj_change.specs.Graph.{point_cmp}
use Rattle.pj_change.specs.Positions.{same_point}
use Rattle.pj_change.proofs.Orders.{point_total}
use Rattle.pj_change.proofs.EqualNames.{point_tied, same_point_is}
use Rattle.pj_pmap.specs.Pairs.{value_at, with_pair, without_key, IsRising}
use Rattle.pj_pmap.proofs.Lookups.{value_with, value_without}
use Rattle.pj_rows.specs.Keys.{times}
use Rattle.pj_rows.proofs.KeyLemmas.{count_cons}
use Rattle.pj_cuts.specs.declared.keys.CutAt.{CutAt}
use Rattle.pj_cuts.specs.declared.keys.Length.{Length}
use Rattle.pj_cuts.specs.Counted.{cut_cmp, key, extent, only_at}

pub cut_total : IsTotalOrder cut_cmp
cut_total = on_total (λ (k : CutAt). k.at) point_total

-- keys that the order does not tell apart are one
pub cut_tied : (k l : CutAt) → cut_cmp k l ≡ Equal → k ≡ l
cut_tied k l e = let same = point_tied k.at l.at e in λ i. record { at = same i }

eq_then : (a b : Ordering) → is_eq (ordering_then a b) ≡ (is_eq a && is_eq b)
eq_then Less b = refl
eq_then Equal b = refl
eq_then Greater b = refl

eq_nat : (a b : ℕ) → is_eq (nat_cmp a b) ≡ nat_eq a b
eq_nat a b = grind arith

eq_reverse : (c : Ordering) → is_eq (ordering_reverse c) ≡ is_eq c
eq_reverse Less = refl
eq_reverse Equal = refl
eq_reverse Greater = refl

-- equal in the order is the same
pub eq_point : (p q : Point) → is_eq (point_cmp p q) ≡ same_point p q
eq_point p q =
    eq_then (name_cmp p.change q.change) (nat_cmp p.offset q.offset)
    ∙ (λ i. is_eq-slice_cmp p.change.bytes q.change.bytes i && eq_nat p.offset q.offset i)

-- the same the other way round
pub eq_back : (p q : Point) → is_eq (point_cmp p q) ≡ same_point q p
eq_back p q = ap is_eq (point_total.antisymm p q) ∙ eq_reverse (point_cmp q p) ∙ eq_point q p

-- ---- one more, and one less

-- one key is counted once, and the others not at all
pub times_only : (at p : Point) → times cut_cmp (key p) (key at ∷ []) ≡ only_at at 1 p
times_only at p = count_cons (λ (k : CutAt). is_eq (cut_cmp (key p) k)) (key at) [] ∙ by (is_eq (point_cmp p at)) (same_point at p) (eq_back p at)
  where
    by : (a b : Bool) → a ≡ b → cond a 1 0 + 0 ≡ cond b 1 0
    by a true e = rw e refl
    by a false e = rw e refl

module _ (blocks : List (CutAt × Length)) (first : Point) where
  seen_here : (p : Point) → same_point first p ≡ true → extent (value_at cut_cmp (key p) blocks) ≡ extent (value_at cut_cmp (key first) blocks)
  seen_here p h = ap (λ (q : Point). extent (value_at cut_cmp (key q) blocks)) (sym (same_point_is first p h))

  -- the length grows at the first point of a new block, and nowhere else
  pub length_grows : (len : Length) → extent (value_at cut_cmp (key first) blocks) ≡ 0 → (p : Point) →
      extent (value_at cut_cmp (key p) (with_pair cut_cmp (key first) len blocks)) ≡ extent (value_at cut_cmp (key p) blocks) + only_at first len.len p
  length_grows len none p =
      ap extent (value_with cut_cmp cut_total (key p) (key first) len blocks)
      ∙ ap (λ b. extent (cond b (Some len) (value_at cut_cmp (key p) blocks))) (eq_back p first)
      ∙ by (same_point first p) (seen_here p)
    where
      by : (b : Bool) → (b ≡ true → extent (value_at cut_cmp (key p) blocks) ≡ extent (value_at cut_cmp (key first) blocks)) →
          extent (cond b (Some len) (value_at cut_cmp (key p) blocks)) ≡ extent (value_at cut_cmp (key p) blocks) + cond b len.len 0
      by true here = let h = here refl in omega (arith, h, none)
      by false here = omega arith

  -- it falls at the first point of a block that goes
  pub length_falls : IsRising cut_cmp blocks → (p : Point) →
      extent (value_at cut_cmp (key p) (without_key cut_cmp (key first) blocks)) + only_at first (extent (value_at cut_cmp (key first) blocks)) p ≡ extent (value_at cut_cmp (key p) blocks)
  length_falls up p =
      ap (λ n. n + only_at first (extent (value_at cut_cmp (key first) blocks)) p)
      (ap extent (value_without cut_cmp cut_total (key p) (key first) blocks up)
      ∙ ap (λ b. extent (cond b None (value_at cut_cmp (key p) blocks))) (eq_back p first))
      ∙ by (same_point first p) (seen_here p)
    where
      by : (b : Bool) → (b ≡ true → extent (value_at cut_cmp (key p) blocks) ≡ extent (value_at cut_cmp (key first) blocks)) →
          extent (cond b None (value_at cut_cmp (key p) blocks)) + cond b (extent (value_at cut_cmp (key first) blocks)) 0 ≡ extent (value_at cut_cmp (key p) blocks)
      by true here = let h = here refl in omega (arith, h)
      by false here = omega arith
