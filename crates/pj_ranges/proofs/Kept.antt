-- The set with one range more, and with one less.
use Rattle.std.proofs.Common.{◌≡◌, ◌∙◌, sym, subst, refl, true, false, not, ◌&&◌, ◌||◌, List}
use Rattle.std.specs.Ordering.{is_eq}
use Rattle.std.specs.declared.cmp.Ordering.{Ordering}
use Rattle.std.specs.declared.cmp.Ordering.TheVariants.{Less, Equal, Greater}
use Rattle.pj_pmap.specs.Pairs.{IsRising}
use Rattle.pj_rows.specs.declared.values.Here.{Here}
use Rattle.pj_ranges.specs.declared.range.RangeAt.{RangeAt}
use Rattle.pj_ranges.specs.Units.{range_cmp, IsMeasured}
use Rattle.pj_ranges.specs.Over.{has_range, AreKept}
use Rattle.pj_ranges.proofs.RangeOrder.{range_tied}

module _ (es now : List (RangeAt × Here)) (range : RangeAt) (kept : AreKept es) (rising : IsRising range_cmp now) where
  pub kept_with : IsMeasured range → ((q : RangeAt) → has_range now q ≡ (is_eq (range_cmp q range) || has_range es q)) → AreKept now
  kept_with m rows = record { rising = rising; measured = λ r h. by r (range_cmp r range) refl (sym (rows r) ∙ h) }
    where
      by : (r : RangeAt) (o : Ordering) → range_cmp r range ≡ o → (is_eq (range_cmp r range) || has_range es r) ≡ true → IsMeasured r
      by r Less f h = kept.measured r (rw f at h)
      by r Equal f h = subst IsMeasured (sym (range_tied r range f)) m
      by r Greater f h = kept.measured r (rw f at h)

  pub kept_without : ((q : RangeAt) → has_range now q ≡ (not (is_eq (range_cmp q range)) && has_range es q)) → AreKept now
  kept_without rows = record { rising = rising; measured = λ r h. by r (range_cmp r range) refl (sym (rows r) ∙ h) }
    where
      by : (r : RangeAt) (o : Ordering) → range_cmp r range ≡ o → (not (is_eq (range_cmp r range)) && has_range es r) ≡ true → IsMeasured r
      by r Less f h = kept.measured r (rw f at h)
      by r Equal f h = absurd (let g : false ≡ true = rw f at h in cc)
      by r Greater f h = kept.measured r (rw f at h)
