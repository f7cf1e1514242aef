-- What `floor` and `next_after` find, and what is found after a change.
use Rattle.std.proofs.Common.{◌≡◌, ◌∙◌, sym, ap, refl, Bool, true, false, List, Some, None, ◌⊎◌, inl, inr, cond}
use Rattle.std.specs.Cmp.{IsTotalOrder}
use Rattle.std.specs.Ordering.{is_lt, is_eq}
use Rattle.std.specs.declared.cmp.Ordering.{Ordering}
use Rattle.std.specs.declared.cmp.Ordering.TheVariants.{Less, Equal, Greater}
use Rattle.std.proofs.lemmas.Cmp.{alike_right}
use Rattle.pj_pmap.specs.Pairs.{IsRising, value_at, floor_of, next_of, with_pair, without_key}
use Rattle.pj_pmap.proofs.Lookups.{floor_none, floor_some, next_none, next_some, contains_value, value_contains, value_with, value_without}
use Rattle.pj_rows.specs.Found.{IsFloorFound, IsNextFound}

module _ {K V : Type 0} (cmp : K → K → Ordering) (order : IsTotalOrder cmp) where
  -- ---- floor

  pub floor_found : (k : K) (es : List (K × V)) (p : K × V) → IsRising cmp es → floor_of cmp k es ≡ Some p → IsFloorFound cmp k es p
  floor_found k es p r h =
      let f = floor_some cmp order k es p r h in
      record {
        found = contains_value cmp order es p r f.found;
        low = f.low;
        last = λ q w v low.
            let c = value_contains cmp order q w es v in
            ap is_lt (alike_right order q c.0 p.0 c.1) ∙ f.last (c.0, w) c.2 (ap is_lt (sym (alike_right order q c.0 k c.1)) ∙ low);
      }

  pub none_below : (k : K) (es : List (K × V)) → IsRising cmp es → floor_of cmp k es ≡ None → (q : K) (w : V) → value_at cmp q es ≡ Some w → cmp k q ≡ Less
  none_below k es r h q w v = let c = value_contains cmp order q w es v in alike_right order q c.0 k c.1 ∙ floor_none cmp order k es r h (c.0, w) c.2

  -- ---- next_after

  pub next_found : (k : K) (es : List (K × V)) (p : K × V) → IsRising cmp es → next_of cmp k es ≡ Some p → IsNextFound cmp k es p
  next_found k es p r h =
      let n = next_some cmp order k es p r h in
      record {
        found = contains_value cmp order es p r n.found;
        above = n.above;
        first = λ q w v above.
            let c = value_contains cmp order q w es v in
            ap is_lt (order.congr q c.0 p.0 c.1) ∙ n.first (c.0, w) c.2 (sym (alike_right order q c.0 k c.1) ∙ above);
      }

  pub none_above : (k : K) (es : List (K × V)) → next_of cmp k es ≡ None → (q : K) (w : V) → value_at cmp q es ≡ Some w → is_lt (cmp k q) ≡ false
  none_above k es h q w v = let c = value_contains cmp order q w es v in ap is_lt (alike_right order q c.0 k c.1) ∙ next_none cmp k es h (c.0, w) c.2

  -- ---- changes

  -- a value that is found in the changed map is the new one, or was there
  pub found_with : (q k : K) (v w : V) (es : List (K × V)) → value_at cmp q (with_pair cmp k v es) ≡ Some w → ((cmp q k ≡ Equal) × (v ≡ w)) ⊎ (value_at cmp q es ≡ Some w)
  found_with q k v w es h = by (cmp q k) refl (sym (value_with cmp order q k v es) ∙ h)
    where
      by : (o : Ordering) → cmp q k ≡ o → cond (is_eq (cmp q k)) (Some v) (value_at cmp q es) ≡ Some w → ((cmp q k ≡ Equal) × (v ≡ w)) ⊎ (value_at cmp q es ≡ Some w)
      by Less f e = inr (rw f at e)
      by Equal f e = inl (f, let g : Some v ≡ Some w = rw f at e in cc)
      by Greater f e = inr (rw f at e)

  pub found_without : (q k : K) (w : V) (es : List (K × V)) → IsRising cmp es → value_at cmp q (without_key cmp k es) ≡ Some w → value_at cmp q es ≡ Some w
  found_without q k w es r h = by (is_eq (cmp q k)) (sym (value_without cmp order q k es r) ∙ h)
    where
      by : (b : Bool) → cond b None (value_at cmp q es) ≡ Some w → value_at cmp q es ≡ Some w
      by true e = cc e
      by false e = e
