-- For callers: what look-ups give after a change, and what they say of the pairs.
use Rattle.std.proofs.Common.{◌≡◌, zero, suc, Bool, true, false, ◌⊎◌, inl, inr, ⊎_elim, List, [], ◌∷◌, Option, Some, None, cond, refl, sym, ap, ◌∙◌, subst, arith, Contains}
use Rattle.std.specs.Cmp.{IsTotalOrder}
use Rattle.std.specs.Ordering.{is_lt, is_eq}
use Rattle.std.specs.declared.cmp.Ordering.{Ordering}
use Rattle.std.specs.declared.cmp.Ordering.TheVariants.{Less, Equal, Greater}
use Rattle.std.proofs.lemmas.Cmp.{alike_right, tied_itself}
use Rattle.pj_pmap.specs.Pairs.{AllAbove, IsRising, value_at, floor_of, next_of, with_pair, without_key}
use Rattle.pj_pmap.specs.Lookups.{IsFloor, IsNext}
use Rattle.pj_pmap.proofs.Order.{greater_back}
use Rattle.pj_pmap.proofs.Rising

-- ---- a pair of a list

pub contains_first : {X : Type 0} (x : X) (xs : List X) → Contains (x ∷ xs) x
contains_first x xs = (0, omega arith, refl)

pub contains_later : {X : Type 0} (x y : X) (xs : List X) → Contains xs y → Contains (x ∷ xs) y
contains_later x y xs (i, l, is) = (suc i, omega arith, is)

pub contains_cases : {X : Type 0} (x y : X) (xs : List X) → Contains (x ∷ xs) y → (x ≡ y) ⊎ Contains xs y
contains_cases x y xs (zero, l, is) = inl is
contains_cases x y xs (suc i, l, is) = inr (i, omega arith, is)

-- a look-up in a list with one more pair in front
put : {K V : Type 0} (cmp : K → K → Ordering) (q k : K) (v : V) (es : List (K × V)) → value_at cmp q ((k, v) ∷ es) ≡ cond (is_eq (cmp q k)) (Some v) (value_at cmp q es)
put cmp q k v es = by (cmp q k) refl
  where
    by : (o : Ordering) → cmp q k ≡ o → value_at cmp q ((k, v) ∷ es) ≡ cond (is_eq (cmp q k)) (Some v) (value_at cmp q es)
    by Less f = rw f refl
    by Equal f = rw f refl
    by Greater f = rw f refl

not_below : {K : Type 0} {cmp : K → K → Ordering} (order : IsTotalOrder cmp) (a b : K) → cmp a b ≡ Less → is_lt (cmp b a) ≡ false
not_below order a b h = ap is_lt (greater_back order a b h)

not_below_itself : {K : Type 0} {cmp : K → K → Ordering} (order : IsTotalOrder cmp) (a : K) → is_lt (cmp a a) ≡ false
not_below_itself order a = ap is_lt (tied_itself order a)

module _ {K V : Type 0} (cmp : K → K → Ordering) where
  pub above_contains : (k : K) (es : List (K × V)) (p : K × V) → AllAbove cmp k es → Contains es p → cmp k p.0 ≡ Less
  above_contains k [] p h (i, l, is) = absurd (omega arith)
  above_contains k (e ∷ es) p h c = by (above_contains k es p h.1) (contains_cases e p es c)
    where
      by : (Contains es p → cmp k p.0 ≡ Less) → (e ≡ p) ⊎ Contains es p → cmp k p.0 ≡ Less
      by rest (inl same) = subst (λ (q : K × V). cmp k q.0 ≡ Less) same h.0
      by rest (inr later) = rest later

  -- ---- next_after

  -- None says that no key is above k
  pub next_none : (k : K) (es : List (K × V)) → next_of cmp k es ≡ None → (q : K × V) → Contains es q → is_lt (cmp k q.0) ≡ false
  next_none k [] h q (i, l, is) = absurd (omega arith)
  next_none k (e ∷ es) h q c = by (next_none k es) (cmp k e.0) refl (contains_cases e q es c)
    where
      by : (next_of cmp k es ≡ None → (r : K × V) → Contains es r → is_lt (cmp k r.0) ≡ false) → (o : Ordering) → cmp k e.0 ≡ o → (e ≡ q) ⊎ Contains es q → is_lt (cmp k q.0) ≡ false
      by rest Less f s = let g = rw f at h in cc
      by rest Equal f (inl same) = subst (λ (r : K × V). is_lt (cmp k r.0) ≡ false) same (ap is_lt f)
      by rest Equal f (inr later) = rest (rw f at h) q later
      by rest Greater f (inl same) = subst (λ (r : K × V). is_lt (cmp k r.0) ≡ false) same (ap is_lt f)
      by rest Greater f (inr later) = rest (rw f at h) q later

  module _ (order : IsTotalOrder cmp) where
    -- Some gives the least pair above k
    pub next_some : (k : K) (es : List (K × V)) (p : K × V) → IsRising cmp es → next_of cmp k es ≡ Some p → IsNext cmp k es p
    next_some k [] p r h = cc
    next_some k (e ∷ es) p r h = by (next_some k es p r.1) (cmp k e.0) refl
      where
        later : is_lt (cmp k e.0) ≡ false → IsNext cmp k es p → IsNext cmp k (e ∷ es) p
        later low n = record {
          found = contains_later e p es n.found;
          above = n.above;
          first = λ q c a. ⊎_elim (λ (same : e ≡ q). cc (low, subst (λ (x : K × V). cmp k x.0 ≡ Less) (sym same) a)) (λ (m : Contains es q). n.first q m a) (contains_cases e q es c);
        }

        by : (next_of cmp k es ≡ Some p → IsNext cmp k es p) → (o : Ordering) → cmp k e.0 ≡ o → IsNext cmp k (e ∷ es) p
        by rest Less f =
            let is : e ≡ p = let g = rw f at h in cc in
            record {
              found = subst (Contains (e ∷ es)) is (contains_first e es);
              above = subst (λ (x : K × V). cmp k x.0 ≡ Less) is f;
              first = λ q c a. ⊎_elim
                  (λ (same : e ≡ q). subst (λ (x : K × V). is_lt (cmp x.0 p.0) ≡ false) (sym is ∙ same) (not_below_itself order p.0))
                  (λ (m : Contains es q). subst (λ (x : K × V). is_lt (cmp q.0 x.0) ≡ false) is (not_below order e.0 q.0 (above_contains e.0 es q r.0 m)))
                  (contains_cases e q es c);
            }
        by rest Equal f = later (ap is_lt f) (rest (rw f at h))
        by rest Greater f = later (ap is_lt f) (rest (rw f at h))

    -- ---- floor

    -- None says that all keys are above k
    pub floor_none : (k : K) (es : List (K × V)) → IsRising cmp es → floor_of cmp k es ≡ None → (q : K × V) → Contains es q → cmp k q.0 ≡ Less
    floor_none k [] r h q (i, l, is) = absurd (omega arith)
    floor_none k (e ∷ es) r h q c = by (cmp k e.0) refl
      where
        by : (o : Ordering) → cmp k e.0 ≡ o → cmp k q.0 ≡ Less
        by Less f = above_contains k (e ∷ es) q (f, Rising.AllAbove-less cmp order k e.0 es f r.0) c
        by Equal f = let g = rw f at h in cc
        by Greater f = let g = rw f at h in cc

    -- the first pair is the floor where all others are above k
    floor_here : (k : K) (e : K × V) (es : List (K × V)) → is_lt (cmp k e.0) ≡ false → ((q : K × V) → Contains es q → cmp k q.0 ≡ Less) → IsFloor cmp k (e ∷ es) e
    floor_here k e es low above = record {
      found = contains_first e es;
      low = low;
      last = λ q c a. ⊎_elim
          (λ (same : e ≡ q). subst (λ (x : K × V). is_lt (cmp e.0 x.0) ≡ false) same (not_below_itself order e.0))
          (λ (m : Contains es q). let b : cmp k q.0 ≡ Less = above q m in cc (a, ap is_lt b))
          (contains_cases e q es c);
    }

    -- a floor of the others is one of all
    floor_later : (k : K) (e p : K × V) (es : List (K × V)) → AllAbove cmp e.0 es → IsFloor cmp k es p → IsFloor cmp k (e ∷ es) p
    floor_later k e p es above f = record {
      found = contains_later e p es f.found;
      low = f.low;
      last = λ q c a. ⊎_elim
          (λ (same : e ≡ q). subst (λ (x : K × V). is_lt (cmp p.0 x.0) ≡ false) same (not_below order e.0 p.0 (above_contains e.0 es p above f.found)))
          (λ (m : Contains es q). f.last q m a)
          (contains_cases e q es c);
    }

    -- Some gives the greatest pair not above k
    pub floor_some : (k : K) (es : List (K × V)) (p : K × V) → IsRising cmp es → floor_of cmp k es ≡ Some p → IsFloor cmp k es p
    floor_some k [] p r h = cc
    floor_some k (e ∷ es) p r h = by (λ q. floor_some k es q r.1) (cmp k e.0) refl (floor_of cmp k es) refl
      where
        by : ((q : K × V) → floor_of cmp k es ≡ Some q → IsFloor cmp k es q) → (o : Ordering) → cmp k e.0 ≡ o → (l : Option (K × V)) → floor_of cmp k es ≡ l → IsFloor cmp k (e ∷ es) p
        by rest Less f l n = let g = rw f at h in cc
        by rest Equal f l n =
            let is : e ≡ p = let g = rw f at h in cc in
            subst (IsFloor cmp k (e ∷ es)) is (floor_here k e es (ap is_lt f) (λ q m. above_contains k es q (Rising.AllAbove-same cmp order k e.0 es f r.0) m))
        by rest Greater f None n =
            let is : e ≡ p = let g = rw (f, n) at h in cc in
            subst (IsFloor cmp k (e ∷ es)) is (floor_here k e es (ap is_lt f) (floor_none k es r.1 n))
        by rest Greater f (Some q) n =
            let is : q ≡ p = let g = rw (f, n) at h in cc in
            subst (IsFloor cmp k (e ∷ es)) is (floor_later k e q es r.0 (rest q n))

    -- ---- get

    -- after `with`: the new value at the key, and what was there elsewhere
    pub value_with : (q k : K) (v : V) (es : List (K × V)) → value_at cmp q (with_pair cmp k v es) ≡ cond (is_eq (cmp q k)) (Some v) (value_at cmp q es)
    value_with q k v [] = put cmp q k v []
    value_with q k v (e ∷ es) = by (value_with q k v es) (cmp k e.0) refl (cmp q k) refl (cmp q e.0) refl
      where
        by : value_at cmp q (with_pair cmp k v es) ≡ cond (is_eq (cmp q k)) (Some v) (value_at cmp q es) → (a : Ordering) → cmp k e.0 ≡ a → (b : Ordering) → cmp q k ≡ b → (c : Ordering) → cmp q e.0 ≡ c → value_at cmp q (with_pair cmp k v (e ∷ es)) ≡ cond (is_eq (cmp q k)) (Some v) (value_at cmp q (e ∷ es))
        by rest Less f b g c h = rw f (put cmp q k v (e ∷ es))
        by rest Equal f Equal g c h = rw (f, g) refl
        by rest Equal f Less g c h = rw (f, g, sym (alike_right order k e.0 q f) ∙ g) refl
        by rest Equal f Greater g c h = rw (f, g, sym (alike_right order k e.0 q f) ∙ g) refl
        by rest Greater f Equal g c h = rw (f, order.congr q k e.0 g ∙ f) rest
        by rest Greater f Less g Less h = rw (f, h) rest
        by rest Greater f Less g Equal h = rw (f, h, g) refl
        by rest Greater f Less g Greater h = rw (f, h) rest
        by rest Greater f Greater g Less h = rw (f, h) rest
        by rest Greater f Greater g Equal h = rw (f, h, g) refl
        by rest Greater f Greater g Greater h = rw (f, h) rest

    -- after `without`: none at the key, and what was there elsewhere
    pub value_without : (q k : K) (es : List (K × V)) → IsRising cmp es → value_at cmp q (without_key cmp k es) ≡ cond (is_eq (cmp q k)) None (value_at cmp q es)
    value_without q k [] r = none (is_eq (cmp q k))
      where
        none : (b : Bool) → ◌≡◌ {A = Option V} None (cond b None None)
        none true = refl
        none false = refl
    value_without q k (e ∷ es) r = by (value_without q k es r.1) (cmp k e.0) refl (cmp q k) refl (cmp q e.0) refl
      where
        by : value_at cmp q (without_key cmp k es) ≡ cond (is_eq (cmp q k)) None (value_at cmp q es) → (a : Ordering) → cmp k e.0 ≡ a → (b : Ordering) → cmp q k ≡ b → (c : Ordering) → cmp q e.0 ≡ c → value_at cmp q (without_key cmp k (e ∷ es)) ≡ cond (is_eq (cmp q k)) None (value_at cmp q (e ∷ es))
        by rest Less f Equal g c h =
            let low : cmp q e.0 ≡ Less = order.congr q k e.0 g ∙ f in
            rw (f, g) (Rising.value-none_above cmp q (e ∷ es) (low, Rising.AllAbove-less cmp order q e.0 es low r.0))
        by rest Less f Less g c h = rw (f, g) refl
        by rest Less f Greater g c h = rw (f, g) refl
        by rest Equal f Equal g c h = rw (f, g) (Rising.value-none_above cmp q es (Rising.AllAbove-same cmp order q e.0 es (order.congr q k e.0 g ∙ f) r.0))
        by rest Equal f Less g c h = rw (f, g, sym (alike_right order k e.0 q f) ∙ g) refl
        by rest Equal f Greater g c h = rw (f, g, sym (alike_right order k e.0 q f) ∙ g) refl
        by rest Greater f Equal g c h = rw (f, order.congr q k e.0 g ∙ f) rest
        by rest Greater f Less g Less h = rw (f, h) rest
        by rest Greater f Less g Equal h = rw (f, h, g) refl
        by rest Greater f Less g Greater h = rw (f, h) rest
        by rest Greater f Greater g Less h = rw (f, h) rest
        by rest Greater f Greater g Equal h = rw (f, h, g) refl
        by rest Greater f Greater g Greater h = rw (f, h) rest

    value_first : (e : K × V) (es : List (K × V)) → value_at cmp e.0 (e ∷ es) ≡ Some e.1
    value_first e es = rw (tied_itself order e.0) refl

    -- a pair that is there is found by its key
    pub contains_value : (es : List (K × V)) (p : K × V) → IsRising cmp es → Contains es p → value_at cmp p.0 es ≡ Some p.1
    contains_value [] p r (i, l, is) = absurd (omega arith)
    contains_value (e ∷ es) p r c = by (contains_value es p r.1) (contains_cases e p es c)
      where
        by : (Contains es p → value_at cmp p.0 es ≡ Some p.1) → (e ≡ p) ⊎ Contains es p → value_at cmp p.0 (e ∷ es) ≡ Some p.1
        by rest (inl same) = subst (λ (q : K × V). value_at cmp q.0 (e ∷ es) ≡ Some q.1) same (value_first e es)
        by rest (inr later) = rw (greater_back order e.0 p.0 (above_contains e.0 es p r.0 later)) (rest later)

    -- what is found is there, with a key that ties
    pub value_contains : (q : K) (v : V) (es : List (K × V)) → value_at cmp q es ≡ Some v → (k : K) × (cmp q k ≡ Equal) × Contains es (k, v)
    value_contains q v [] h = cc
    value_contains q v (e ∷ es) h = by (value_contains q v es) (cmp q e.0) refl
      where
        on : (k : K) × (cmp q k ≡ Equal) × Contains es (k, v) → (k : K) × (cmp q k ≡ Equal) × Contains (e ∷ es) (k, v)
        on (k, ties, there) = (k, ties, contains_later e (k, v) es there)

        by : (value_at cmp q es ≡ Some v → (k : K) × (cmp q k ≡ Equal) × Contains es (k, v)) → (o : Ordering) → cmp q e.0 ≡ o → (k : K) × (cmp q k ≡ Equal) × Contains (e ∷ es) (k, v)
        by rest Less f = on (rest (rw f at h))
        by rest Equal f =
            let is : e.1 ≡ v = let g = rw f at h in cc in
            (e.0, f, subst (λ (w : V). Contains (e ∷ es) (e.0, w)) is (contains_first e es))
        by rest Greater f = on (rest (rw f at h))
