-- What a look-up by order finds, by the values of the keys.
use Rattle.std.specs.Prelude.{◌≡◌, false, List, Some}
use Rattle.std.specs.Ordering.{is_lt}
use Rattle.std.specs.declared.cmp.Ordering.{Ordering}
use Rattle.std.specs.declared.cmp.Ordering.TheVariants.{Less}
use Rattle.pj_pmap.specs.Pairs.{value_at}

module _ {K V : Type 0} (cmp : K → K → Ordering) where
  -- the key has the value, is not above k, and no other such key is above it
  pub record IsFloorFound (k : K) (es : List (K × V)) (p : K × V) : Type 0 where
    pub found : value_at cmp p.0 es ≡ Some p.1
    pub low : is_lt (cmp k p.0) ≡ false
    pub last : (q : K) (w : V) → value_at cmp q es ≡ Some w → is_lt (cmp k q) ≡ false → is_lt (cmp p.0 q) ≡ false

  -- the key has the value, is above k, and no other such key is below it
  pub record IsNextFound (k : K) (es : List (K × V)) (p : K × V) : Type 0 where
    pub found : value_at cmp p.0 es ≡ Some p.1
    pub above : cmp k p.0 ≡ Less
    pub first : (q : K) (w : V) → value_at cmp q es ≡ Some w → cmp k q ≡ Less → is_lt (cmp q p.0) ≡ false
