-- The table and its ranges with one hunk more, and with one less.
use Rattle.std.proofs.Common.{◌≡◌, ◌∙◌, ◌<◌, sym, ap, subst, refl, true, false, not, ◌&&◌, ◌||◌, List, [], inl, inr, Some, None, cond}
use Rattle.std.specs.Ordering.{is_eq}
use Rattle.std.specs.declared.cmp.Ordering.{Ordering}
use Rattle.std.specs.declared.cmp.Ordering.TheVariants.{Less, Equal, Greater}
use Rattle.std.proofs.lemmas.Bool.{and_parts, or_right}
use Rattle.std.proofs.lemmas.Cmp.{tied_itself}
use Rattle.pj_pmap.specs.Pairs.{IsRising, with_pair, without_key}
use Rattle.pj_pmap.proofs.Lookups.{value_with, value_without}
use Rattle.pj_rows.specs.declared.values.Here.{Here}
use Rattle.pj_rows.proofs.FoundLemmas.{found_with, found_without}
use Rattle.pj_ranges.specs.declared.range.HunkAt.{HunkAt}
use Rattle.pj_ranges.specs.declared.range.RangeAt.{RangeAt}
use Rattle.pj_ranges.specs.Units.{hunk_cmp, range_cmp}
use Rattle.pj_ranges.specs.Over.{has_range}
use Rattle.pj_ranges.proofs.RangeOrder.{hunk_total, range_total, range_tied}
use Rattle.pj_states.specs.declared.deletion.Deletion.{Deletion}
use Rattle.pj_states.specs.Rows.{Rows, said_by}
use Rattle.pj_states.specs.Index.{range_by, AreIndexed}
use Rattle.pj_states.proofs.HunkOrder.{hunk_tied}

pub indexed_none : AreIndexed [] []
indexed_none = record {
  rising = tt;
  some = λ k d h. absurd (cc);
  there = λ k d h. absurd (cc);
  only = λ r h. absurd (cc);
}

-- the range is that of a hunk of the table
abbrev IsRangeOf : Rows → RangeAt → Type 0
IsRangeOf rows r = (d : Deletion) × (said_by r.by rows ≡ Some d) × (r ≡ range_by r.by d)

module _ (rows : Rows) (ranges now : List (RangeAt × Here)) (x : AreIndexed rows ranges) (k : HunkAt) (d : Deletion) where
  -- ---- with a hunk

  module _ (fresh : said_by k rows ≡ None) (kept : (q : RangeAt) → has_range now q ≡ (is_eq (range_cmp q (range_by k d)) || has_range ranges q)) where
    said_itself : said_by k (with_pair hunk_cmp k d rows) ≡ Some d
    said_itself = value_with hunk_cmp hunk_total k k d rows ∙ ap (λ o. cond (is_eq o) (Some d) (said_by k rows)) (tied_itself hunk_total k)

    said_still : (j : HunkAt) (e : Deletion) → said_by j rows ≡ Some e → said_by j (with_pair hunk_cmp k d rows) ≡ Some e
    said_still j e h = value_with hunk_cmp hunk_total j k d rows ∙ by (hunk_cmp j k) refl
      where
        by : (o : Ordering) → hunk_cmp j k ≡ o → cond (is_eq (hunk_cmp j k)) (Some d) (said_by j rows) ≡ Some e
        by Less f = rw f h
        by Equal f = absurd (let g : said_by k rows ≡ Some e = ap (λ i. said_by i rows) (sym (hunk_tied j k f)) ∙ h in let c : None ≡ Some e = sym fresh ∙ g in cc)
        by Greater f = rw f h

    range_itself : has_range now (range_by k d) ≡ true
    range_itself = kept (range_by k d) ∙ ap (λ o. is_eq o || has_range ranges (range_by k d)) (tied_itself range_total (range_by k d))

    range_still : (q : RangeAt) → has_range ranges q ≡ true → has_range now q ≡ true
    range_still q h = kept q ∙ or_right (is_eq (range_cmp q (range_by k d))) (has_range ranges q) h

    range_is : (q : RangeAt) → has_range now q ≡ true → IsRangeOf (with_pair hunk_cmp k d rows) q
    range_is q h = by (range_cmp q (range_by k d)) refl (sym (kept q) ∙ h)
      where
        old : has_range ranges q ≡ true → IsRangeOf (with_pair hunk_cmp k d rows) q
        old g = let s = x.only q g in (s.0, said_still q.by s.0 s.1, s.2)

        by : (o : Ordering) → range_cmp q (range_by k d) ≡ o → (is_eq (range_cmp q (range_by k d)) || has_range ranges q) ≡ true → IsRangeOf (with_pair hunk_cmp k d rows) q
        by Less f g = old (rw f at g)
        by Equal f g = subst (IsRangeOf (with_pair hunk_cmp k d rows)) (sym (range_tied q (range_by k d) f)) (d, said_itself, refl)
        by Greater f g = old (rw f at g)

    pub indexed_with : d.start < d.end → IsRising hunk_cmp (with_pair hunk_cmp k d rows) → AreIndexed (with_pair hunk_cmp k d rows) now
    indexed_with some rising = record {
      rising = rising;
      some = λ j e h. elim (found_with hunk_cmp hunk_total j k d e rows h) [
        | inl s ↦ subst (λ (y : Deletion). y.start < y.end) s.1 some
        | inr o ↦ x.some j e o
      ];
      there = λ j e h. elim (found_with hunk_cmp hunk_total j k d e rows h) [
        | inl s ↦ (let tie : k ≡ j = sym (hunk_tied j k s.0) in let said : d ≡ e = s.1 in let same : range_by k d ≡ range_by j e = λ i. range_by (tie i) (said i) in sym (ap (has_range now) same) ∙ range_itself)
        | inr o ↦ range_still (range_by j e) (x.there j e o)
      ];
      only = range_is;
    }

  -- ---- without it

  module _ (said : said_by k rows ≡ Some d) (kept : (q : RangeAt) → has_range now q ≡ (not (is_eq (range_cmp q (range_by k d))) && has_range ranges q)) where
    -- another hunk than k
    module _ (j : HunkAt) (e : Deletion) where
      gone : j ≡ k → said_by j (without_key hunk_cmp k rows) ≡ None
      gone same =
          let tie : hunk_cmp j k ≡ Equal = ap (hunk_cmp j) (sym same) ∙ tied_itself hunk_total j in
          value_without hunk_cmp hunk_total j k rows x.rising ∙ ap (λ o. cond (is_eq o) None (said_by j rows)) tie

      other_range : said_by j (without_key hunk_cmp k rows) ≡ Some e → is_eq (range_cmp (range_by j e) (range_by k d)) ≡ false
      other_range h = by (range_cmp (range_by j e) (range_by k d)) refl
        where
          by : (o : Ordering) → range_cmp (range_by j e) (range_by k d) ≡ o → is_eq (range_cmp (range_by j e) (range_by k d)) ≡ false
          by Less f = ap is_eq f
          by Equal f = absurd (let same : j ≡ k = ap (λ (r : RangeAt). r.by) (range_tied (range_by j e) (range_by k d) f) in let c : None ≡ Some e = sym (gone same) ∙ h in cc)
          by Greater f = ap is_eq f

    range_stays : (q : RangeAt) → is_eq (range_cmp q (range_by k d)) ≡ false → has_range ranges q ≡ true → has_range now q ≡ true
    range_stays q f h = kept q ∙ ap (λ b. not b && has_range ranges q) f ∙ h

    range_left : (q : RangeAt) → has_range now q ≡ true → IsRangeOf (without_key hunk_cmp k rows) q
    range_left q h =
        let both = and_parts (not (is_eq (range_cmp q (range_by k d)))) (has_range ranges q) (sym (kept q) ∙ h) in
        let s = x.only q both.1 in
        (s.0, value_without hunk_cmp hunk_total q.by k rows x.rising ∙ by both.0 s.0 s.1 s.2 (hunk_cmp q.by k) refl, s.2)
      where
        by : not (is_eq (range_cmp q (range_by k d))) ≡ true → (e : Deletion) → said_by q.by rows ≡ Some e → q ≡ range_by q.by e →
            (o : Ordering) → hunk_cmp q.by k ≡ o → cond (is_eq (hunk_cmp q.by k)) None (said_by q.by rows) ≡ Some e
        by other e g is Less f = rw f g
        by other e g is Equal f = absurd (
            let same : q.by ≡ k = hunk_tied q.by k f in
            let one : Some e ≡ Some d = sym g ∙ ap (λ i. said_by i rows) same ∙ said in
            let equal : e ≡ d = cc in
            let range : q ≡ range_by k d = is ∙ (λ i. range_by (same i) (equal i)) in
            let tie : is_eq (range_cmp q (range_by k d)) ≡ true = ap (λ r. is_eq (range_cmp q r)) (sym range) ∙ ap is_eq (tied_itself range_total q) in
            let c : false ≡ true = sym (ap not tie) ∙ other in
            cc)
        by other e g is Greater f = rw f g

    pub indexed_without : IsRising hunk_cmp (without_key hunk_cmp k rows) → AreIndexed (without_key hunk_cmp k rows) now
    indexed_without rising = record {
      rising = rising;
      some = λ j e h. x.some j e (found_without hunk_cmp hunk_total j k e rows x.rising h);
      there = λ j e h. range_stays (range_by j e) (other_range j e h) (x.there j e (found_without hunk_cmp hunk_total j k e rows x.rising h));
      only = range_left;
    }
