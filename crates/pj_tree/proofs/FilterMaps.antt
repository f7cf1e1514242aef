-- The order of what `filter_map` gives.
use Rattle.std.proofs.Common.{◌≡◌, List, [], ◌∷◌, Some, None, Option, refl, filter_map}
use Rattle.std.specs.List.{AllByRecursion, cons_option}
use Rattle.std.specs.List.Sorted.{IsStrictlySortedBy}
use Rattle.std.specs.declared.cmp.Ordering.{Ordering}
use Rattle.std.specs.declared.cmp.Ordering.TheVariants.{Less}
use Rattle.pj_pmap.specs.Pairs.{AllAbove, IsRising}

module _ {K V Y : Type 0} (cmp : K → K → Ordering) (order : Y → Y → Ordering) (h : K × V → Option Y)
    (keeps : (a b : K × V) (y z : Y) → h a ≡ Some y → h b ≡ Some z → cmp a.0 b.0 ≡ Less → order y z ≡ Less) where
  all_above : (a : K × V) (y : Y) → h a ≡ Some y → (es : List (K × V)) → AllAbove cmp a.0 es → AllByRecursion (λ z. order y z ≡ Less) (filter_map h es)
  all_above a y e [] above = tt
  all_above a y e (b ∷ es) above = by (all_above a y e es above.1) (h b) refl
    where
      by : AllByRecursion (λ z. order y z ≡ Less) (filter_map h es) → (o : Option Y) → h b ≡ o → AllByRecursion (λ z. order y z ≡ Less) (cons_option o (filter_map h es))
      by rest None f = rest
      by rest (Some z) f = (keeps a b y z e f above.0, rest)

  pub in_order : (es : List (K × V)) → IsRising cmp es → IsStrictlySortedBy order (filter_map h es)
  unfolding IsStrictlySortedBy
  in_order [] rising = tt
  in_order (b ∷ es) rising = by (in_order es rising.1) (h b) refl
    where
      by : IsStrictlySortedBy order (filter_map h es) → (o : Option Y) → h b ≡ o → IsStrictlySortedBy order (cons_option o (filter_map h es))
      by rest None f = rest
      by rest (Some z) f = (all_above b z f es rising.0, rest)
