-- What a table of contests says of the set: the counts of the definition, whatever the order of the set's list.
use Rattle.std.proofs.Common.{◌≡◌, ℕ, ◌<◌, true, ◌&&◌, List, Option, Some, None, refl, sym, ap, ◌∙◌, subst, arith, nat_lt}
use Rattle.std.specs.Prelude.{Contains, slice_get, MatchOption, is_some}
use Rattle.std.specs.Borrow.{Bor}
use Rattle.std.specs.List.{list_any}
use Rattle.std.specs.declared.cmp.Ordering.{Ordering}
use Rattle.std.proofs.lemmas.Bool.Decides.{nat_tests}
use Rattle.std.proofs.lemmas.Bool.{and_parts}
use Rattle.pj_name.specs.Name.{same_name}
use Rattle.pj_change.specs.declared.hunk.Hunk.{Hunk}
use Rattle.pj_change.specs.declared.change.Record.{Record}
use Rattle.pj_change.specs.Sets.{HaveSameMembers, HaveDistinctNames}
use Rattle.pj_change.specs.Contested.{is_hunk_contested}
use Rattle.pj_change.specs.ContestCounts.{is_contested_by, contests_of}
use Rattle.pj_change.proofs.Counting.{count_alike, positive_count}
use Rattle.pj_change.proofs.CountedContests.{contested_by-same, counted_contested}
use Rattle.pj_change.proofs.DistinctRecords.{set_count}
use Rattle.pj_change.proofs.EqualNames.{same_name_is}
use Rattle.pj_change.proofs.Members.{any_same, passes}
use Rattle.pj_ranges.specs.declared.range.HunkAt.{HunkAt}
use Rattle.pj_ranges.specs.Units.{hunk_cmp}
use Rattle.pj_pmap.specs.Pairs.{value_at}
use Rattle.pj_rows.specs.declared.values.Count.{Count}
use Rattle.pj_rows.specs.declared.values.Here.{Here}
use Rattle.pj_rows.specs.Keys.{is_among, number_at, amount, AllCounted}
use Rattle.pj_contest.specs.Contests.{is_opposed, is_hit, count_of, IsIndexOf, Table, IsContestsOf, AreCountsOf, knows_more}
use Rattle.pj_contest.specs.Laws.{OfMembers, SameCounts}
use Rattle.pj_contest.proofs.Named.{AreApart, any_named, apart_pairs}

-- ---- the counts

pub count_is : (S : List Record) → AreApart S → (d : Record) → Contains S d → (k : ℕ) (h : Hunk) → slice_get d.change.hunks k ≡ Some h → count_of S (record { change = d.name; hunk = k }) ≡ contests_of S d h
count_is S apart d m k h e = count_alike (is_hit S (record { change = d.name; hunk = k })) (is_contested_by S d h) S (λ i n.
    any_named S d.name (λ d. is_opposed S d (slice_get d.change.hunks k) i) apart d m refl ∙ ap (λ g. is_opposed S d g i) e)

hit_at : (S : List Record) (x : HunkAt) (i : Record) → is_hit S x i ≡ true → (d : Record) × Contains S d × (d.name ≡ x.change) × ((h : Hunk) × (slice_get d.change.hunks x.hunk ≡ Some h))
hit_at S x i e =
    let d = passes (λ d. same_name d.name x.change && is_opposed S d (slice_get d.change.hunks x.hunk) i) S e in
    let a = and_parts (same_name d.it.name x.change) (is_opposed S d.it (slice_get d.it.change.hunks x.hunk) i) d.is in
    (d.it, d.member, same_name_is d.it.name x.change a.0, by d.it (slice_get d.it.change.hunks x.hunk) refl a.1)
  where
    by : (d : Record) (g : Option Hunk) → slice_get d.change.hunks x.hunk ≡ g → is_opposed S d g i ≡ true → (h : Hunk) × (slice_get d.change.hunks x.hunk ≡ Some h)
    by d None f w = absurd (cc)
    by d (Some h) f w = (h, f)

counted_at : (S : List Record) (x : HunkAt) → 0 < count_of S x → (d : Record) × Contains S d × (d.name ≡ x.change) × ((h : Hunk) × (slice_get d.change.hunks x.hunk ≡ Some h))
counted_at S x some =
    let any : list_any (is_hit S x) S ≡ true = sym (positive_count (is_hit S x) S) ∙ test (count_of S x) some in
    let i = passes (is_hit S x) S any in
    hit_at S x i.it i.is
  where
    test : (n : ℕ) → 0 < n → nat_lt 0 n ≡ true
    test n l = grind (arith, nat_tests)

pub are_counts : (S : List Record) → HaveDistinctNames S → (t : Table) → IsContestsOf S t → AreCountsOf S t.counts
are_counts S distinct t is = record {
  there = λ d m k h e. is.counts (record { change = d.name; hunk = k }) ∙ count_is S (apart_pairs S distinct) d m k h e;
  only = λ x some. counted_at S x (subst (λ n. 0 < n) (is.counts x) some);
}

pub is_contested : (S : List Record) → HaveDistinctNames S → (t : Table) → IsContestsOf S t → (d : Record) → Contains S d → (k : ℕ) (h : Hunk) → slice_get d.change.hunks k ≡ Some h →
    nat_lt 0 (number_at hunk_cmp (record { change = d.name; hunk = k }) t.counts) ≡ is_hunk_contested S d h
is_contested S distinct t is d m k h e = ap (nat_lt 0) (is.counts (record { change = d.name; hunk = k }) ∙ count_is S (apart_pairs S distinct) d m k h e) ∙ counted_contested S d h

-- a key of counts is found exactly where its count is above 0
pub found_is : (x : HunkAt) (es : List (HunkAt × Count)) → AllCounted hunk_cmp es → (o : Option (Bor Count)) → MatchOption o (value_at hunk_cmp x es ≡ None) (λ (v : Bor Count). value_at hunk_cmp x es ≡ Some v.now) → is_some o ≡ nat_lt 0 (number_at hunk_cmp x es)
found_is x es counted None m = sym (ap (λ (o : Option Count). nat_lt 0 (amount o)) m)
found_is x es counted (Some v) m = sym (ap (λ (o : Option Count). nat_lt 0 (amount o)) m ∙ test v.now.count (counted.some x v.now m))
  where
    test : (n : ℕ) → 0 < n → nat_lt 0 n ≡ true
    test n l = grind (arith, nat_tests)

-- ---- lists with the same members

module _ (S T : List Record) (same : HaveSameMembers S T) (left : HaveDistinctNames S) (right : HaveDistinctNames T) where
  opposed-same : (d : Record) (g : Option Hunk) (i : Record) → is_opposed S d g i ≡ is_opposed T d g i
  opposed-same d None i = refl
  opposed-same d (Some h) i = contested_by-same S T same d h i

  hit-same : (x : HunkAt) (i : Record) → is_hit S x i ≡ is_hit T x i
  hit-same x i = any_same (λ d. same_name d.name x.change && is_opposed S d (slice_get d.change.hunks x.hunk) i) (λ d. same_name d.name x.change && is_opposed T d (slice_get d.change.hunks x.hunk) i) S T same.there same.back
      (λ d. ap (λ b. same_name d.name x.change && b) (opposed-same d (slice_get d.change.hunks x.hunk) i))

  count-same : (x : HunkAt) → count_of S x ≡ count_of T x
  count-same x = set_count S T same left right (is_hit S x) ∙ count_alike (is_hit S x) (is_hit T x) T (λ i m. hit-same x i)

  index-same : {K : Type 0} (cmp : K → K → Ordering) (rows : Record → List K) (es : List (K × Here)) → IsIndexOf cmp rows S es → IsIndexOf cmp rows T es
  index-same cmp rows es is q = is q ∙ any_same (λ r. is_among cmp q (rows r)) (λ r. is_among cmp q (rows r)) S T same.there same.back (λ r. refl)

  table-same : (t : Table) → IsContestsOf S t → IsContestsOf T t
  table-same t is = record {
    counts = λ x. is.counts x ∙ count-same x;
    rows = record {
      ups = index-same _ _ t.rows.ups is.rows.ups;
      bases = index-same _ _ t.rows.bases is.rows.bases;
      children = index-same _ _ t.rows.children is.rows.children;
      ranges = index-same _ _ t.rows.ranges is.rows.ranges;
    };
    knowing = is.knowing ∙ set_count S T same left right knows_more;
  }

pub of_members : OfMembers
of_members S T same left right t is = table-same S T same left right t is

pub same_counts : SameCounts
same_counts S T same left right t u is js x = is.counts x ∙ count-same S T same left right x ∙ sym (js.counts x)
