-- What a scan between two keys gives: each key of the map that is between them.
use Rattle.std.proofs.Common.{◌≡◌, suc, ◌+◌, Bool, true, false, ◌⊎◌, inl, inr, List, [], ◌∷◌, Option, Some, None, refl, sym, ap, subst, arith, map}
use Rattle.std.specs.Prelude.{Contains}
use Rattle.std.specs.Cmp.{IsTotalOrder}
use Rattle.std.specs.List.{take_while, prefix_len}
use Rattle.std.specs.Ordering.{is_lt}
use Rattle.std.specs.declared.cmp.Ordering.{Ordering}
use Rattle.std.specs.declared.cmp.Ordering.TheVariants.{Less, Equal, Greater}
use Rattle.pj_pmap.specs.Pairs.{IsRising, rest_after, value_at}
use Rattle.pj_pmap.proofs.Lookups.{contains_first, contains_later, contains_cases, above_contains, value_contains}
use Rattle.pj_rows.specs.Keys.{has, keys_in}

pub while_yes : {X : Type 0} (p : X → Bool) (x : X) (xs : List X) → p x ≡ true → take_while p (x ∷ xs) ≡ x ∷ take_while p xs
while_yes p x xs h =
    let more : 1 + prefix_len p xs ≡ suc (prefix_len p xs) = omega arith in
    rw (h, more) refl

map_contains : {X Y : Type 0} (f : X → Y) (x : X) (xs : List X) → Contains xs x → Contains (map f xs) (f x)
map_contains f x [] (i, l, is) = absurd (omega arith)
map_contains f x (y ∷ ys) c = by (map_contains f x ys) (contains_cases y x ys c)
  where
    by : (Contains ys x → Contains (map f ys) (f x)) → (y ≡ x) ⊎ Contains ys x → Contains (map f (y ∷ ys)) (f x)
    by rest (inl same) = subst (λ z. Contains (f z ∷ map f ys) (f x)) (sym same) (contains_first (f x) (map f ys))
    by rest (inr later) = contains_later (f y) (f x) (map f ys) (rest later)

module _ {K V : Type 0} (cmp : K → K → Ordering) (order : IsTotalOrder cmp) where
  while_contains : (below : K) (es : List (K × V)) (p : K × V) → IsRising cmp es → Contains es p → cmp p.0 below ≡ Less → Contains (take_while (λ e. is_lt (cmp e.0 below)) es) p
  while_contains below [] p r (i, l, is) low = absurd (omega arith)
  while_contains below (e ∷ es) p r c low = by (while_contains below es p r.1) (contains_cases e p es c)
    where
      by : (Contains es p → cmp p.0 below ≡ Less → Contains (take_while (λ e. is_lt (cmp e.0 below)) es) p) → (e ≡ p) ⊎ Contains es p → Contains (take_while (λ e. is_lt (cmp e.0 below)) (e ∷ es)) p
      by rest (inl same) =
          rw (while_yes (λ (e : K × V). is_lt (cmp e.0 below)) e es (ap is_lt (subst (λ (x : K × V). cmp x.0 below ≡ Less) (sym same) low)))
          (subst (Contains (e ∷ take_while (λ e. is_lt (cmp e.0 below)) es)) same (contains_first e (take_while (λ e. is_lt (cmp e.0 below)) es)))
      by rest (inr later) =
          let before : cmp e.0 below ≡ Less = order.trans e.0 p.0 below (above_contains cmp e.0 es p r.0 later) low in
          rw (while_yes (λ (e : K × V). is_lt (cmp e.0 below)) e es (ap is_lt before)) (contains_later e p (take_while (λ e. is_lt (cmp e.0 below)) es) (rest later low))

  rest_contains : (above : K) (es : List (K × V)) (p : K × V) → IsRising cmp es → Contains es p → cmp above p.0 ≡ Less → IsRising cmp (rest_after cmp above es) × Contains (rest_after cmp above es) p
  rest_contains above [] p r (i, l, is) high = absurd (omega arith)
  rest_contains above (e ∷ es) p r c high = by (rest_contains above es p r.1) (cmp above e.0) refl (contains_cases e p es c)
    where
      by : (Contains es p → cmp above p.0 ≡ Less → IsRising cmp (rest_after cmp above es) × Contains (rest_after cmp above es) p) → (o : Ordering) → cmp above e.0 ≡ o → (e ≡ p) ⊎ Contains es p →
          IsRising cmp (rest_after cmp above (e ∷ es)) × Contains (rest_after cmp above (e ∷ es)) p
      by rest Less f s = rw f (r, c)
      by rest Equal f (inl same) = let g : cmp above e.0 ≡ Less = subst (λ (x : K × V). cmp above x.0 ≡ Less) (sym same) high in cc
      by rest Equal f (inr later) = rw f (r.1, later)
      by rest Greater f (inl same) = let g : cmp above e.0 ≡ Less = subst (λ (x : K × V). cmp above x.0 ≡ Less) (sym same) high in cc
      by rest Greater f (inr later) = rw f (rest later high)

  -- a key of the map that is between the two is given
  pub scan_has : (equal : (a b : K) → cmp a b ≡ Equal → a ≡ b) (above below k : K) (es : List (K × V)) → IsRising cmp es → has cmp k es ≡ true → cmp above k ≡ Less → cmp k below ≡ Less → Contains (keys_in cmp above below es) k
  scan_has equal above below k es r h high low = by (value_at cmp k es) refl
    where
      by : (o : Option V) → value_at cmp k es ≡ o → Contains (keys_in cmp above below es) k
      by None f = let g : false ≡ true = rw f at h in cc
      by (Some v) f =
          let found = value_contains cmp order k v es f in
          let same : k ≡ found.0 = equal k found.0 found.1 in
          let there : Contains es (k, v) = subst (λ (x : K). Contains es (x, v)) (sym same) found.2 in
          let rest = rest_contains above es (k, v) r there high in
          map_contains (λ (e : K × V). e.0) (k, v) (take_while (λ e. is_lt (cmp e.0 below)) (rest_after cmp above es)) (while_contains below (rest_after cmp above es) (k, v) rest.0 rest.1 low)
