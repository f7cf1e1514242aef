-- The pairs of a map after a change, as members. (Of any map whose keys that tie are equal.)
use Rattle.std.proofs.Common.{◌≡◌, ◌≢◌, true, false, ◌⊎◌, inl, inr, List, Some, None, Option, cond, refl, sym, ap, ◌∙◌, subst, Contains, ⊎_elim}
use Rattle.std.specs.Cmp.{IsTotalOrder}
use Rattle.std.specs.Ordering.{is_eq}
use Rattle.std.specs.declared.cmp.Ordering.{Ordering}
use Rattle.std.specs.declared.cmp.Ordering.TheVariants.{Less, Equal, Greater}
use Rattle.std.proofs.lemmas.Cmp.{tied_itself}
use Rattle.pj_pmap.specs.Pairs.{IsRising, value_at, with_pair, without_key}
use Rattle.pj_pmap.proofs.Lookups.{contains_value, value_contains, value_with, value_without}
use Rattle.pj_pmap.proofs.Rising.{IsRising-with, IsRising-without}

module _ {K : Type 0} (cmp : K → K → Ordering) (order : IsTotalOrder cmp) (equal : (a b : K) → cmp a b ≡ Equal → a ≡ b) where
  -- keys are one, or the order tells them apart
  pub apart : (q k : K) → (q ≡ k) ⊎ ((q ≢ k) × (is_eq (cmp q k) ≡ false))
  apart q k = by (cmp q k) refl
    where
      differ : is_eq (cmp q k) ≡ false → q ≢ k
      differ f e = let h : cmp q k ≡ Equal = subst (λ x. cmp x k ≡ Equal) (sym e) (tied_itself order k) in cc (f, h)

      by : (o : Ordering) → cmp q k ≡ o → (q ≡ k) ⊎ ((q ≢ k) × (is_eq (cmp q k) ≡ false))
      by Less h = let f : is_eq (cmp q k) ≡ false = ap is_eq h in inr (differ f, f)
      by Equal h = inl (equal q k h)
      by Greater h = let f : is_eq (cmp q k) ≡ false = ap is_eq h in inr (differ f, f)

  tie : (q k : K) → q ≡ k → is_eq (cmp q k) ≡ true
  tie q k e = ap is_eq (subst (λ x. cmp x k ≡ Equal) (sym e) (tied_itself order k))

module _ {K V : Type 0} (cmp : K → K → Ordering) (order : IsTotalOrder cmp) (equal : (a b : K) → cmp a b ≡ Equal → a ≡ b) where
  pub from_value : (es : List (K × V)) (p : K × V) → value_at cmp p.0 es ≡ Some p.1 → Contains es p
  from_value es p h = let f = value_contains cmp order p.0 p.1 es h in subst (λ k. Contains es (k, p.1)) (sym (equal p.0 f.0 f.1)) f.2

  -- the pair, and those that were there with other keys
  pub member_with : (k : K) (v : V) (es : List (K × V)) → IsRising cmp es → (p : K × V) → Contains (with_pair cmp k v es) p → (p ≡ (k, v)) ⊎ (Contains es p × (p.0 ≢ k))
  member_with k v es r p m =
      let h : cond (is_eq (cmp p.0 k)) (Some v) (value_at cmp p.0 es) ≡ Some p.1 =
      sym (value_with cmp order p.0 k v es) ∙ contains_value cmp order (with_pair cmp k v es) p (IsRising-with cmp order k v es r) m in
      ⊎_elim
      (λ (e : p.0 ≡ k). let g : Some v ≡ Some p.1 = rw (tie cmp order equal p.0 k e) at h in inl (λ i. (e i, some_is v p.1 g i)))
      (λ (d : (p.0 ≢ k) × (is_eq (cmp p.0 k) ≡ false)). inr (from_value es p (rw d.1 at h), d.0))
      (apart cmp order equal p.0 k)
    where
      some_is : (a b : V) → Some a ≡ Some b → b ≡ a
      some_is a b h = cc

  pub member_same : (k : K) (v : V) (es : List (K × V)) → IsRising cmp es → Contains (with_pair cmp k v es) (k, v)
  member_same k v es r = from_value (with_pair cmp k v es) (k, v) (value_with cmp order k k v es ∙ rw (tie cmp order equal k k refl) refl)

  pub member_other : (k : K) (v : V) (es : List (K × V)) → IsRising cmp es → (p : K × V) → Contains es p → (p.0 ≢ k) → Contains (with_pair cmp k v es) p
  member_other k v es r p m n =
      let a : is_eq (cmp p.0 k) ≡ false = ⊎_elim (λ (e : p.0 ≡ k). absurd (n e)) (λ (d : (p.0 ≢ k) × (is_eq (cmp p.0 k) ≡ false)). d.1) (apart cmp order equal p.0 k) in
      from_value (with_pair cmp k v es) p (value_with cmp order p.0 k v es ∙ rw a (contains_value cmp order es p r m))

  -- those that were there with other keys
  pub member_without : (k : K) (es : List (K × V)) → IsRising cmp es → (p : K × V) → Contains (without_key cmp k es) p → Contains es p × (p.0 ≢ k)
  member_without k es r p m =
      let h : cond (is_eq (cmp p.0 k)) None (value_at cmp p.0 es) ≡ Some p.1 =
      sym (value_without cmp order p.0 k es r) ∙ contains_value cmp order (without_key cmp k es) p (IsRising-without cmp k es r) m in
      ⊎_elim
      (λ (e : p.0 ≡ k). absurd (let g : ◌≡◌ {A = Option V} None (Some p.1) = rw (tie cmp order equal p.0 k e) at h in cc))
      (λ (d : (p.0 ≢ k) × (is_eq (cmp p.0 k) ≡ false)). (from_value es p (rw d.1 at h), d.0))
      (apart cmp order equal p.0 k)

  pub member_left : (k : K) (es : List (K × V)) → IsRising cmp es → (p : K × V) → Contains es p → (p.0 ≢ k) → Contains (without_key cmp k es) p
  member_left k es r p m n =
      let a : is_eq (cmp p.0 k) ≡ false = ⊎_elim (λ (e : p.0 ≡ k). absurd (n e)) (λ (d : (p.0 ≢ k) × (is_eq (cmp p.0 k) ≡ false)). d.1) (apart cmp order equal p.0 k) in
      from_value (without_key cmp k es) p (value_without cmp order p.0 k es r ∙ rw a (contains_value cmp order es p r m))
