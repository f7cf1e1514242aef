-- The counts of a change's own hunks, one hunk after another.
use Rattle.std.proofs.Common.{◌≡◌, ℕ, ◌+◌, ◌≤◌, Bool, true, false, ◌&&◌, List, Some, None, refl, sym, ap, ◌∙◌, subst, arith, cond, count_by, nat_lt, length}
use Rattle.std.specs.Prelude.{slice_get}
use Rattle.std.specs.Ordering.{is_eq}
use Rattle.std.specs.declared.cmp.Ordering.{Ordering}
use Rattle.std.specs.declared.cmp.Ordering.TheVariants.{Less, Equal, Greater}
use Rattle.std.proofs.lemmas.Bool.Decides.{nat_tests}
use Rattle.std.proofs.lemmas.Cmp.{tied_itself}
use borrow.Author.Tests.{ltb-false}
use Rattle.std.proofs.lemmas.Option.{slice_get_past}
use Rattle.pj_name.specs.Name.{same_name}
use Rattle.pj_change.specs.declared.hunk.Hunk.{Hunk}
use Rattle.pj_change.specs.declared.hunk.Hunk.TheVariants.{File, Dir, NameOf, Insert, Order, Delete, Revive}
use Rattle.pj_change.specs.declared.change.Record.{Record}
use Rattle.pj_change.proofs.EqualNames.{same_name_is, name_itself}
use Rattle.pj_ranges.specs.declared.range.HunkAt.{HunkAt}
use Rattle.pj_rows.specs.declared.values.Count.{Count}
use Rattle.pj_rows.specs.Keys.{number_at}
use Rattle.pj_ranges.specs.Units.{hunk_cmp}
use Rattle.pj_change.specs.ContestCounts.{is_contested_by}
use Rattle.pj_contest.specs.Contests.{is_opposed, own_count}
use Rattle.pj_rows.proofs.KeyLemmas.{number_alike}
use Rattle.pj_ranges.proofs.RangeOrder.{hunk_total}
use Rattle.pj_contest.proofs.MarkOrder.{hunk_tied}
use Rattle.pj_contest.proofs.Counting.{count_none}

-- where the count is 0 and nothing is put, it is as if 0 were put
pub none_put : (es : List (HunkAt × Count)) (a x : HunkAt) (n : ℕ) → number_at hunk_cmp a es ≡ 0 → n ≡ 0 → number_at hunk_cmp x es ≡ cond (is_eq (hunk_cmp x a)) n (number_at hunk_cmp x es)
none_put es a x n none zero = by (hunk_cmp x a) refl
  where
    by : (o : Ordering) → hunk_cmp x a ≡ o → number_at hunk_cmp x es ≡ cond (is_eq (hunk_cmp x a)) n (number_at hunk_cmp x es)
    by Less f = sym (ap (λ o. cond (is_eq o) n (number_at hunk_cmp x es)) f)
    by Greater f = sym (ap (λ o. cond (is_eq o) n (number_at hunk_cmp x es)) f)
    by Equal f = number_alike hunk_cmp hunk_total x a es f ∙ none ∙ sym zero ∙ sym (ap (λ o. cond (is_eq o) n (number_at hunk_cmp x es)) f)

-- nobody contests what is no deletion
pub no_deletion : (S : List Record) (r : Record) (g : Hunk) → ((owner start end : ℕ) (names : List ℕ) → g ≡ Delete owner start end names → ⊥) → count_by (is_contested_by S r g) S ≡ 0
no_deletion S r (File parent name exec) unlike = count_none (is_contested_by S r (File parent name exec)) S (λ i. refl)
no_deletion S r (Dir parent name) unlike = count_none (is_contested_by S r (Dir parent name)) S (λ i. refl)
no_deletion S r (NameOf parent child name exec) unlike = count_none (is_contested_by S r (NameOf parent child name exec)) S (λ i. refl)
no_deletion S r (Insert file ups downs bytes) unlike = count_none (is_contested_by S r (Insert file ups downs bytes)) S (λ i. refl)
no_deletion S r (Order file source target) unlike = count_none (is_contested_by S r (Order file source target)) S (λ i. refl)
no_deletion S r (Revive owner start end names) unlike = count_none (is_contested_by S r (Revive owner start end names)) S (λ i. refl)
no_deletion S r (Delete owner start end names) unlike = absurd (unlike owner start end names refl)

-- nor what is no hunk
pub own_past : (S : List Record) (r : Record) (k : ℕ) → length r.change.hunks ≤ k → own_count S r k ≡ 0
own_past S r k past = ap (λ g. count_by (is_opposed S r g) S) (slice_get_past r.change.hunks k past) ∙ count_none (is_opposed S r None) S (λ i. refl)

lt_no : (n : ℕ) → nat_lt n n ≡ false
lt_no n = grind (arith, nat_tests)

lt_next : (n : ℕ) → nat_lt n (n + 1) ≡ true
lt_next n = grind (arith, nat_tests)

lt_other : (m n : ℕ) → (m ≡ n → ⊥) → nat_lt m (n + 1) ≡ nat_lt m n
lt_other m n h = grind (arith, nat_tests)

-- a step
pub own_step : (S : List Record) (r : Record) (k : ℕ) (h : Hunk) → slice_get r.change.hunks k ≡ Some h → (x : HunkAt) (later now old : ℕ) →
    later ≡ cond (is_eq (hunk_cmp x (record { change = r.name; hunk = k }))) (count_by (is_contested_by S r h) S) now →
    now ≡ cond (same_name r.name x.change && nat_lt x.hunk k) (own_count S r x.hunk) old →
    later ≡ cond (same_name r.name x.change && nat_lt x.hunk (k + 1)) (own_count S r x.hunk) old
own_step S r k h there x later now old e was = by (hunk_cmp x (record { change = r.name; hunk = k })) refl
  where
    here : HunkAt
    here = record { change = r.name; hunk = k }

    other : (b : Bool) → same_name r.name x.change ≡ b → is_eq (hunk_cmp x here) ≡ false → (same_name r.name x.change && nat_lt x.hunk (k + 1)) ≡ (same_name r.name x.change && nat_lt x.hunk k)
    other true s f = ap (λ b. same_name r.name x.change && b) (lt_other x.hunk k (λ n.
        let c = same_name_is r.name x.change s in
        let same : x ≡ here = λ i. record { change = sym c i; hunk = n i } in
        let t : is_eq (hunk_cmp x here) ≡ true = subst (λ (y : HunkAt). is_eq (hunk_cmp x y) ≡ true) same (ap is_eq (tied_itself hunk_total x)) in
        not_both (is_eq (hunk_cmp x here)) t f))
      where
        not_both : (b : Bool) → b ≡ true → b ≡ false → ⊥
        not_both b t f = cc
    other false s f = ap (λ b. b && nat_lt x.hunk (k + 1)) s ∙ sym (ap (λ b. b && nat_lt x.hunk k) s)

    past : is_eq (hunk_cmp x here) ≡ false → later ≡ cond (same_name r.name x.change && nat_lt x.hunk (k + 1)) (own_count S r x.hunk) old
    past f = e ∙ ap (λ b. cond b (count_by (is_contested_by S r h) S) now) f ∙ was ∙ ap (λ b. cond b (own_count S r x.hunk) old) (sym (other (same_name r.name x.change) refl f))

    by : (o : Ordering) → hunk_cmp x here ≡ o → later ≡ cond (same_name r.name x.change && nat_lt x.hunk (k + 1)) (own_count S r x.hunk) old
    by Less f = past (ap is_eq f)
    by Greater f = past (ap is_eq f)
    by Equal f =
        let same : x ≡ here = hunk_tied x here f in
        let own : own_count S r x.hunk ≡ count_by (is_contested_by S r h) S = ap (λ (y : HunkAt). own_count S r y.hunk) same ∙ ap (λ g. count_by (is_opposed S r g) S) there in
        let test : (same_name r.name x.change && nat_lt x.hunk (k + 1)) ≡ true = ap (λ (y : HunkAt). same_name r.name y.change && nat_lt y.hunk (k + 1)) same ∙ ap (λ b. b && nat_lt k (k + 1)) (name_itself r.name) ∙ lt_next k in
        e ∙ ap (λ o. cond (is_eq o) (count_by (is_contested_by S r h) S) now) f ∙ sym own ∙ sym (ap (λ b. cond b (own_count S r x.hunk) old) test)

-- at the beginning
pub own_begin : (S : List Record) (r : Record) (x : HunkAt) (old : ℕ) → old ≡ cond (same_name r.name x.change && nat_lt x.hunk 0) (own_count S r x.hunk) old
own_begin S r x old = sym (ap (λ b. cond (same_name r.name x.change && b) (own_count S r x.hunk) old) (none_below x.hunk) ∙ and_no (same_name r.name x.change))
  where
    none_below : (n : ℕ) → nat_lt n 0 ≡ false
    none_below n = grind (arith, nat_tests)

    and_no : (b : Bool) → cond (b && false) (own_count S r x.hunk) old ≡ old
    and_no true = refl
    and_no false = refl

-- before its step, the hunk has no count
pub own_before : (S : List Record) (r : Record) (k now old : ℕ) → now ≡ cond (same_name r.name r.name && nat_lt k k) (own_count S r k) old → old ≡ 0 → now ≡ 0
own_before S r k now old was none = was ∙ ap (λ b. cond (same_name r.name r.name && b) (own_count S r k) old) (lt_no k) ∙ and_no (same_name r.name r.name) ∙ none
  where
    and_no : (b : Bool) → cond (b && false) (own_count S r k) old ≡ old
    and_no true = refl
    and_no false = refl

-- at the end
pub own_end : (S : List Record) (r : Record) (n : ℕ) → length r.change.hunks ≤ n → (x : HunkAt) (now old : ℕ) → now ≡ cond (same_name r.name x.change && nat_lt x.hunk n) (own_count S r x.hunk) old →
    (same_name r.name x.change ≡ true → old ≡ 0) → now ≡ cond (same_name r.name x.change) (own_count S r x.hunk) old
own_end S r n whole x now old was none = by (same_name r.name x.change) refl (nat_lt x.hunk n) refl
  where
    by : (b : Bool) → same_name r.name x.change ≡ b → (c : Bool) → nat_lt x.hunk n ≡ c → now ≡ cond (same_name r.name x.change) (own_count S r x.hunk) old
    by false s c f = was ∙ ap (λ b. cond (b && nat_lt x.hunk n) (own_count S r x.hunk) old) s ∙ sym (ap (λ b. cond b (own_count S r x.hunk) old) s)
    by true s true f = was ∙ ap (λ b. cond (b && nat_lt x.hunk n) (own_count S r x.hunk) old) s ∙ ap (λ c. cond c (own_count S r x.hunk) old) f ∙ sym (ap (λ b. cond b (own_count S r x.hunk) old) s)
    by true s false f =
        let high : n ≤ x.hunk = ltb-false x.hunk n f in
        let past : length r.change.hunks ≤ x.hunk = omega arith in
        was ∙ ap (λ b. cond (b && nat_lt x.hunk n) (own_count S r x.hunk) old) s ∙ ap (λ c. cond c (own_count S r x.hunk) old) f ∙ none s ∙ sym (own_past S r x.hunk past) ∙ sym (ap (λ b. cond b (own_count S r x.hunk) old) s)

-- ---- the counts taken away, one hunk after another

pub taken_begin : (r : Record) (x : HunkAt) (old : ℕ) → old ≡ cond (same_name r.name x.change && nat_lt x.hunk 0) 0 old
taken_begin r x old = sym (ap (λ b. cond (same_name r.name x.change && b) 0 old) (none_below x.hunk) ∙ and_no (same_name r.name x.change))
  where
    none_below : (n : ℕ) → nat_lt n 0 ≡ false
    none_below n = grind (arith, nat_tests)

    and_no : (b : Bool) → cond (b && false) 0 old ≡ old
    and_no true = refl
    and_no false = refl

pub taken_step : (r : Record) (k : ℕ) (x : HunkAt) (later now old : ℕ) → later ≡ cond (is_eq (hunk_cmp x (record { change = r.name; hunk = k }))) 0 now →
    now ≡ cond (same_name r.name x.change && nat_lt x.hunk k) 0 old → later ≡ cond (same_name r.name x.change && nat_lt x.hunk (k + 1)) 0 old
taken_step r k x later now old e was = by (hunk_cmp x (record { change = r.name; hunk = k })) refl
  where
    here : HunkAt
    here = record { change = r.name; hunk = k }

    other : (b : Bool) → same_name r.name x.change ≡ b → is_eq (hunk_cmp x here) ≡ false → (same_name r.name x.change && nat_lt x.hunk (k + 1)) ≡ (same_name r.name x.change && nat_lt x.hunk k)
    other true s f = ap (λ b. same_name r.name x.change && b) (lt_other x.hunk k (λ n.
        let c = same_name_is r.name x.change s in
        let same : x ≡ here = λ i. record { change = sym c i; hunk = n i } in
        let t : is_eq (hunk_cmp x here) ≡ true = subst (λ (y : HunkAt). is_eq (hunk_cmp x y) ≡ true) same (ap is_eq (tied_itself hunk_total x)) in
        not_both (is_eq (hunk_cmp x here)) t f))
      where
        not_both : (b : Bool) → b ≡ true → b ≡ false → ⊥
        not_both b t f = cc
    other false s f = ap (λ b. b && nat_lt x.hunk (k + 1)) s ∙ sym (ap (λ b. b && nat_lt x.hunk k) s)

    past : is_eq (hunk_cmp x here) ≡ false → later ≡ cond (same_name r.name x.change && nat_lt x.hunk (k + 1)) 0 old
    past f = e ∙ ap (λ b. cond b 0 now) f ∙ was ∙ ap (λ b. cond b 0 old) (sym (other (same_name r.name x.change) refl f))

    by : (o : Ordering) → hunk_cmp x here ≡ o → later ≡ cond (same_name r.name x.change && nat_lt x.hunk (k + 1)) 0 old
    by Less f = past (ap is_eq f)
    by Greater f = past (ap is_eq f)
    by Equal f =
        let same : x ≡ here = hunk_tied x here f in
        let test : (same_name r.name x.change && nat_lt x.hunk (k + 1)) ≡ true = ap (λ (y : HunkAt). same_name r.name y.change && nat_lt y.hunk (k + 1)) same ∙ ap (λ b. b && nat_lt k (k + 1)) (name_itself r.name) ∙ lt_next k in
        e ∙ ap (λ o. cond (is_eq o) 0 now) f ∙ sym (ap (λ b. cond b 0 old) test)

pub taken_end : (r : Record) (n : ℕ) (x : HunkAt) (now old : ℕ) → now ≡ cond (same_name r.name x.change && nat_lt x.hunk n) 0 old → (same_name r.name x.change ≡ true → n ≤ x.hunk → old ≡ 0) → now ≡ cond (same_name r.name x.change) 0 old
taken_end r n x now old was none = by (same_name r.name x.change) refl (nat_lt x.hunk n) refl
  where
    by : (b : Bool) → same_name r.name x.change ≡ b → (c : Bool) → nat_lt x.hunk n ≡ c → now ≡ cond (same_name r.name x.change) 0 old
    by false s c f = was ∙ ap (λ b. cond (b && nat_lt x.hunk n) 0 old) s ∙ sym (ap (λ b. cond b 0 old) s)
    by true s true f = was ∙ ap (λ b. cond (b && nat_lt x.hunk n) 0 old) s ∙ ap (λ c. cond c 0 old) f ∙ sym (ap (λ b. cond b 0 old) s)
    by true s false f = was ∙ ap (λ b. cond (b && nat_lt x.hunk n) 0 old) s ∙ ap (λ c. cond c 0 old) f ∙ none s (ltb-false x.hunk n f) ∙ sym (ap (λ b. cond b 0 old) s)
