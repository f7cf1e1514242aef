-- For callers: loops over a map by `next_after`.
use Rattle.std.proofs.Common.{◌≡◌, suc, ◌+◌, ◌≤◌, Bool, true, false, List, [], ◌∷◌, ◌++◌, length, Option, Some, None, refl, sym, ap, ◌∙◌, arith, append-nil}
use Rattle.std.specs.Cmp.{IsTotalOrder}
use Rattle.std.specs.List.{take_while, prefix_len}
use Rattle.std.specs.declared.cmp.Ordering.{Ordering}
use Rattle.std.specs.declared.cmp.Ordering.TheVariants.{Less, Equal, Greater}
use Rattle.std.proofs.lemmas.Cmp.{tied_itself}
use Rattle.pj_pmap.specs.Pairs.{IsRising, next_of, rest_after, first_of}
use Rattle.pj_pmap.specs.Lookups.{IsWalked}
use Rattle.pj_pmap.proofs.Order.{greater_back}
use Rattle.pj_pmap.proofs.Cuts
use Rattle.pj_pmap.proofs.Lookups.{above_contains, next_some}
use Rattle.pj_pmap.proofs.Rising

module _ {K V : Type 0} (cmp : K → K → Ordering) where
  -- a rest is no longer than the list
  pub rest_within : (k : K) (es : List (K × V)) → length (rest_after cmp k es) ≤ length es
  rest_within k [] = omega arith
  rest_within k (e ∷ es) = by (rest_within k es) (cmp k e.0) refl
    where
      by : length (rest_after cmp k es) ≤ length es → (o : Ordering) → cmp k e.0 ≡ o → length (rest_after cmp k (e ∷ es)) ≤ length (e ∷ es)
      by rest Less f = rw f (omega arith)
      by rest Equal f = rw f (omega arith)
      by rest Greater f = rw f (omega arith)

  module _ (order : IsTotalOrder cmp) where
    -- the next pair begins the rest, and what is after it is the rest after its key
    pub rest_some : (k : K) (es : List (K × V)) (p : K × V) → IsRising cmp es → next_of cmp k es ≡ Some p → rest_after cmp k es ≡ p ∷ rest_after cmp p.0 es
    rest_some k [] p r h = cc
    rest_some k (e ∷ es) p r h = by (rest_some k es p r.1) (cmp k e.0) refl
      where
        after : next_of cmp k es ≡ Some p → rest_after cmp p.0 (e ∷ es) ≡ rest_after cmp p.0 es
        after n = let found = (next_some cmp order k es p r.1 n).found in rw (greater_back order e.0 p.0 (above_contains cmp e.0 es p r.0 found)) refl

        by : (next_of cmp k es ≡ Some p → rest_after cmp k es ≡ p ∷ rest_after cmp p.0 es) → (o : Ordering) → cmp k e.0 ≡ o → rest_after cmp k (e ∷ es) ≡ p ∷ rest_after cmp p.0 (e ∷ es)
        by rest Less f =
            let is : e ≡ p = let g = rw f at h in cc in
            rw (f, ← is, tied_itself order e.0) refl
        by rest Equal f =
            let n = rw f at h in
            rw (f, after n) (sym (Cuts.rest-above cmp k es (Rising.AllAbove-same cmp order k e.0 es f r.0)) ∙ rest n)
        by rest Greater f = let n = rw f at h in rw (f, after n) (rest n)

    -- the next pair is the first of the rest
    pub next_begins : (k : K) (es : List (K × V)) → IsRising cmp es → next_of cmp k es ≡ first_of (rest_after cmp k es)
    next_begins k [] r = refl
    next_begins k (e ∷ es) r = by (next_begins k es r.1) (cmp k e.0) refl
      where
        by : next_of cmp k es ≡ first_of (rest_after cmp k es) → (o : Ordering) → cmp k e.0 ≡ o → next_of cmp k (e ∷ es) ≡ first_of (rest_after cmp k (e ∷ es))
        by rest Less f = rw f refl
        by rest Equal f = rw f (Cuts.next-above cmp k [] es (Rising.AllAbove-same cmp order k e.0 es f r.0))
        by rest Greater f = rw f rest

    -- where there is no next pair, nothing is left
    pub rest_none : (k : K) (es : List (K × V)) → IsRising cmp es → next_of cmp k es ≡ None → rest_after cmp k es ≡ []
    rest_none k [] r h = refl
    rest_none k (e ∷ es) r h = by (rest_none k es r.1) (cmp k e.0) refl
      where
        by : (next_of cmp k es ≡ None → rest_after cmp k es ≡ []) → (o : Ordering) → cmp k e.0 ≡ o → rest_after cmp k (e ∷ es) ≡ []
        by rest Less f = let g = rw f at h in cc
        by rest Equal f = rw f (sym (Cuts.rest-above cmp k es (Rising.AllAbove-same cmp order k e.0 es f r.0)) ∙ rest (rw f at h))
        by rest Greater f = rw f (rest (rw f at h))

    -- the measure of a scan: each step leaves one pair fewer
    pub rest_falls : (k : K) (es : List (K × V)) (p : K × V) → IsRising cmp es → next_of cmp k es ≡ Some p → length (rest_after cmp k es) ≡ length (rest_after cmp p.0 es) + 1
    rest_falls k es p r h = ap length (rest_some k es p r h) ∙ omega arith

    -- a scan to a bound: the next pair within it begins the rest within it
    pub rest_in : (within : K × V → Bool) (k : K) (es : List (K × V)) (p : K × V) → IsRising cmp es → next_of cmp k es ≡ Some p → within p ≡ true → take_while within (rest_after cmp k es) ≡ p ∷ take_while within (rest_after cmp p.0 es)
    rest_in within k es p r h inside =
        let more : 1 + prefix_len within (rest_after cmp p.0 es) ≡ suc (prefix_len within (rest_after cmp p.0 es)) = omega arith in
        rw (rest_some k es p r h, inside, more) refl

    -- the scan ends where the next pair is past the bound, or there is none
    pub rest_past : (within : K × V → Bool) (k : K) (es : List (K × V)) (p : K × V) → IsRising cmp es → next_of cmp k es ≡ Some p → within p ≡ false → take_while within (rest_after cmp k es) ≡ []
    rest_past within k es p r h past = rw (rest_some k es p r h, past) refl

    pub rest_out : (within : K × V → Bool) (k : K) (es : List (K × V)) → IsRising cmp es → next_of cmp k es ≡ None → take_while within (rest_after cmp k es) ≡ []
    rest_out within k es r h = rw (rest_none k es r h) refl

-- ---- a walk over all pairs

-- the walk has given all pairs where there is no next one
pub walk_ends : {P : Type 0} (all so_far : List P) → IsWalked all so_far None → so_far ≡ all
walk_ends {P} all so_far w = by w.rest w.is w.begins
  where
    by : (rest : List P) → all ≡ so_far ++ rest → ◌≡◌ {A = Option P} None (first_of rest) → so_far ≡ all
    by [] is begins = sym (append-nil so_far) ∙ sym is
    by (q ∷ rest) is begins = cc
