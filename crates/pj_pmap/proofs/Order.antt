-- A total order, read from the other side.
use Rattle.std.proofs.Common.{◌≡◌, false, refl, ap, ◌∙◌}
use Rattle.std.specs.Cmp.{IsTotalOrder}
use Rattle.std.specs.Ordering.{is_lt, ordering_reverse}
use Rattle.std.specs.declared.cmp.Ordering.{Ordering}
use Rattle.std.specs.declared.cmp.Ordering.TheVariants.{Less, Equal, Greater}
use Rattle.std.proofs.lemmas.Cmp.{alike_right}

module _ {K : Type 0} {cmp : K → K → Ordering} (order : IsTotalOrder cmp) where
  pub greater_back : (x y : K) → cmp x y ≡ Less → cmp y x ≡ Greater
  greater_back x y h = order.antisymm y x ∙ ap ordering_reverse h

  pub less_back : (x y : K) → cmp x y ≡ Greater → cmp y x ≡ Less
  less_back x y h = order.antisymm y x ∙ ap ordering_reverse h

  pub greater_trans : (x y z : K) → cmp x y ≡ Greater → cmp y z ≡ Greater → cmp x z ≡ Greater
  greater_trans x y z h i = greater_back z x (order.trans z y x (less_back y z i) (less_back x y h))

  -- k is not below m, which is above x
  pub greater_from_not_less : (k m x : K) → is_lt (cmp k m) ≡ false → cmp x m ≡ Less → cmp k x ≡ Greater
  greater_from_not_less k m x h i = by (cmp k m) refl
    where
      by : (c : Ordering) → cmp k m ≡ c → cmp k x ≡ Greater
      by Less e = cc (ap is_lt e)
      by Equal e = greater_back x k (alike_right order k m x e ∙ i)
      by Greater e = greater_trans k m x e (greater_back x m i)
