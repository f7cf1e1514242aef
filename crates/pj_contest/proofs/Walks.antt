-- A walk over the ranges of a point that begin at a position or behind it, and one over the ranges of some points.
use Rattle.std.proofs.Common.{◌≡◌, ℕ, ◌+◌, ◌≤◌, ◌<◌, true, false, ◌⊎◌, inl, inr, ⊎_elim, List, [], ◌∷◌, ◌++◌, Option, Some, None, refl, sym, ap, ◌∙◌, subst, arith, length, get_or, take, nat_le, nat_lt}
use Rattle.std.specs.Prelude.{Contains}
use Rattle.std.specs.Ordering.{is_lt}
use Rattle.std.specs.declared.cmp.Ordering.{Ordering}
use Rattle.std.specs.declared.cmp.Ordering.TheVariants.{Less, Equal, Greater}
use Rattle.std.proofs.lemmas.Bool.Decides.{nat_tests}
use Rattle.std.proofs.lemmas.List.{take_more}
use Rattle.std.proofs.lemmas.Bool.{and_from}
use Rattle.pj_pmap.proofs.Order.{less_back}
use Rattle.pj_change.specs.declared.point.Point.{Point}
use Rattle.pj_change.proofs.Decided.{known_less}
use Rattle.pj_change.proofs.EqualNames.{is_same_name}
use Rattle.pj_change.proofs.LawfulLists.{append_cases, second_part}
use Rattle.pj_change.proofs.Members.{first_member}
use Rattle.pj_ranges.specs.declared.range.RangeAt.{RangeAt}
use Rattle.pj_ranges.specs.Units.{range_cmp}
use Rattle.pj_ranges.specs.Over.{has_range, has_point, IsOver, left_from}
use Rattle.pj_ranges.proofs.RangeOrder.{range_total, range_tied, less_by_unit, less_by_start, less_by_end, after_in_owner, has_it}
use Rattle.pj_ranges.proofs.Walked.{rest_shrinks, IsStep}
use Rattle.pj_rows.specs.declared.values.Here.{Here}
use Rattle.pj_contest.proofs.Gathered.{one_member}

-- the range is not below the next one
abbrev pub IsNotBelow : Option RangeAt → RangeAt → Type 0
IsNotBelow None q = ⊥
IsNotBelow (Some next) q = is_lt (range_cmp q next) ≡ false

-- each range that is sought is found, or not below the next one
pub record IsWalked (es : List (RangeAt × Here)) (p : Point) (from : ℕ) (old found : List RangeAt) (next : Option RangeAt) : Type 0 where
  pub kept : (x : RangeAt) → Contains old x → Contains found x
  pub all : (q : RangeAt) → has_range es q ≡ true → has_point q p ≡ true → from ≤ q.start → Contains found q ⊎ IsNotBelow next q
  pub over : (n : RangeAt) → next ≡ Some n → has_point n p ≡ true
  pub there : (n : RangeAt) → next ≡ Some n → has_range es n ≡ true
  pub only : (x : RangeAt) → Contains found x → Contains old x ⊎ (has_range es x ≡ true)

some_is : (a b : RangeAt) → Some a ≡ Some b → a ≡ b
some_is a b e = cc

module _ (es : List (RangeAt × Here)) (p : Point) where
  next_covers : (after next : Option RangeAt) → IsStep es p after next → (q : RangeAt) → IsOver es p after q → IsNotBelow next q
  next_covers after None m q over = m q over
  next_covers after (Some n) m q over = m.first q over

  next_has : (after next : Option RangeAt) → IsStep es p after next → (n : RangeAt) → next ≡ Some n → has_point n p ≡ true
  next_has after None m n e = absurd (let f : ◌≡◌ {A = Option RangeAt} None (Some n) = e in cc)
  next_has after (Some r) m n e = subst (λ (z : RangeAt). has_point z p ≡ true) (some_is r n e) m.one.over

  next_there : (after next : Option RangeAt) → IsStep es p after next → (n : RangeAt) → next ≡ Some n → has_range es n ≡ true
  next_there after None m n e = absurd (let f : ◌≡◌ {A = Option RangeAt} None (Some n) = e in cc)
  next_there after (Some r) m n e = subst (λ (z : RangeAt). has_range es z ≡ true) (some_is r n e) m.one.there

  pub walk_begins : (from : ℕ) (old : List RangeAt) (next : Option RangeAt) → IsStep es p None next → IsWalked es p from old old next
  walk_begins from old next m = record {
    kept = λ x c. c;
    all = λ q there over low. inr (next_covers None next m q (record { there = there; over = over; above = tt }));
    over = next_has None next m;
    there = next_there None next m;
    only = λ x c. inl c;
  }

  pub walk_goes : (from : ℕ) (old found later : List RangeAt) (range bound : RangeAt) (next : Option RangeAt) → IsWalked es p from old found (Some range) →
      ((x : RangeAt) → Contains found x → Contains later x) → (from ≤ range.start → Contains later range) → ((x : RangeAt) → Contains later x → Contains found x ⊎ (x ≡ range)) →
      ((q : RangeAt) → q.owner ≡ range.owner → from ≤ q.start → q.start < q.end → range_cmp range q ≡ Less → range_cmp bound q ≡ Less) →
      IsStep es p (Some bound) next → IsWalked es p from old later next
  walk_goes from old found later range bound next was kept one new skips m = record {
    kept = λ x c. kept x (was.kept x c);
    all = λ q there over low. ⊎_elim (λ (c : Contains found q). inl (kept q c)) (λ (c : is_lt (range_cmp q range) ≡ false). on q there over low c (range_cmp q range) refl) (was.all q there over low);
    over = next_has (Some bound) next m;
    there = next_there (Some bound) next m;
    only = λ x c. ⊎_elim (was.only x) (λ (e : x ≡ range). inr (subst (λ (z : RangeAt). has_range es z ≡ true) (sym e) (was.there range refl))) (new x c);
  }
    where
      on : (q : RangeAt) → has_range es q ≡ true → has_point q p ≡ true → from ≤ q.start → is_lt (range_cmp q range) ≡ false → (o : Ordering) → range_cmp q range ≡ o → Contains later q ⊎ IsNotBelow next q
      on q there over low c Less f = absurd (let g : is_lt (range_cmp q range) ≡ true = ap is_lt f in let h : true ≡ false = sym g ∙ c in cc)
      on q there over low c Equal f =
          let same = range_tied q range f in
          inl (subst (λ (z : RangeAt). Contains later z) (sym same) (one (subst (λ (z : RangeAt). from ≤ z.start) same low)))
      on q there over low c Greater f =
          let a = has_it q p over in
          let b = has_it range p (was.over range refl) in
          let some : q.start < q.end = (let s = a.start in let e = a.end in omega arith) in
          let above = skips q (a.owner ∙ sym b.owner) low some (less_back range_total q range f) in
          inr (next_covers (Some bound) next m q (record { there = there; over = over; above = above }))

  pub walk_ends : (from : ℕ) (old found : List RangeAt) (next : Option RangeAt) → IsWalked es p from old found next → ((n : RangeAt) → next ≡ Some n → ⊥) → (q : RangeAt) → has_range es q ≡ true → has_point q p ≡ true → from ≤ q.start → Contains found q
  walk_ends from old found None was none q there over low = ⊎_elim (λ (c : Contains found q). c) (λ (c : IsNotBelow None q). absurd c) (was.all q there over low)
  walk_ends from old found (Some n) was none q there over low = absurd (none n refl)

  pub walk_owner : (from : ℕ) (old found : List RangeAt) (range : RangeAt) → IsWalked es p from old found (Some range) → range.owner ≡ p.change
  walk_owner from old found range was = (has_it range p (was.over range refl)).owner

-- what is left after the bound is no more than after the range
pub walk_less : (es : List (RangeAt × Here)) (range bound : RangeAt) (next : Option RangeAt) → (range_cmp range bound ≡ Less) ⊎ (bound ≡ range) → left_from es next < left_from es (Some bound) → left_from es next < left_from es (Some range)
walk_less es range bound next keeps falls = let s = rest_shrinks range_cmp range_total range bound keeps es in omega arith

-- ---- the bound

-- what is above the range and begins at a position or behind it is above the bound there
pub above_bound_at : (range bound q : RangeAt) (from : ℕ) → bound.owner ≡ range.owner → bound.unit ≡ range.unit → bound.start ≡ from → bound.end ≡ 0 → q.owner ≡ range.owner → from ≤ q.start → q.start < q.end → range_cmp range q ≡ Less → range_cmp bound q ≡ Less
above_bound_at range bound q from o u s e owner low some above =
    ⊎_elim (λ (l : range.unit < q.unit). less_by_unit bound q (o ∙ sym owner) (omega arith))
    (λ (t : (range.unit ≡ q.unit) × (range.start ≤ q.start)). let same = t.0 in ⊎_elim
    (λ (l : from < q.start). less_by_start bound q (o ∙ sym owner) (u ∙ same) (omega arith))
    (λ n. let at : bound.start ≡ q.start = omega arith in less_by_end bound q (o ∙ sym owner) (u ∙ same) at (omega arith))
    (known_less from q.start))
    (after_in_owner range q (sym owner) above)

-- ---- the points in turn

-- a range that begins before the first position that is new has the point before
pub has_before : (q : RangeAt) (p b : Point) → has_point q p ≡ true → b.change ≡ p.change → b.offset < p.offset → q.start ≤ b.offset → has_point q b ≡ true
has_before q p b over same low starts =
    let it = has_it q p over in
    let end : b.offset < q.end = (let e = it.end in omega arith) in
    and_from _ _ (and_from _ _ (is_same_name q.owner b.change (it.owner ∙ sym same)) (le_test q.start b.offset starts)) (lt_test b.offset q.end end)
  where
    le_test : (x y : ℕ) → x ≤ y → nat_le x y ≡ true
    le_test x y l = grind (arith, nat_tests)

    lt_test : (x y : ℕ) → x < y → nat_lt x y ≡ true
    lt_test x y l = grind (arith, nat_tests)

pub taken_cases : {X : Type 0} (xs : List X) (k : ℕ) (y : X) → k < length xs → get_or xs k y ≡ y → (x : X) → Contains (take (k + 1) xs) x → Contains (take k xs) x ⊎ (y ≡ x)
taken_cases {X} xs k y low is x m =
    let more = take_more xs k y low ∙ ap (λ z. take k xs ++ z ∷ []) is in
    ⊎_elim (λ (n : Contains (take k xs) x). inl n) (λ (n : Contains (y ∷ []) x). inr (one_member y x n)) (append_cases (take k xs) (y ∷ []) x (subst (λ zs. Contains zs x) more m))

pub taken_last : {X : Type 0} (xs : List X) (k : ℕ) (y : X) → k < length xs → get_or xs k y ≡ y → Contains (take (k + 1) xs) y
taken_last xs k y low is = subst (λ zs. Contains zs y) (sym (take_more xs k y low ∙ ap (λ z. take k xs ++ z ∷ []) is)) (second_part (take k xs) (y ∷ []) y (first_member y []))

-- the ranges of the points so far are found, and the point before is one of these
pub record AreFound (es : List (RangeAt × Here)) (points : List Point) (found : List RangeAt) (before : Option Point) : Type 0 where
  pub all : (p : Point) → Contains points p → (q : RangeAt) → has_range es q ≡ true → has_point q p ≡ true → Contains found q
  pub last : (b : Point) → before ≡ Some b → Contains points b
  pub only : (q : RangeAt) → Contains found q → has_range es q ≡ true

pub found_more : {now : List (RangeAt × Here)} (es : List (RangeAt × Here)) (points : List Point) (k : ℕ) (at : Point) → k < length points → get_or points k at ≡ at → (found later : List RangeAt) (before : Option Point) (from : ℕ) →
    AreFound es (take k points) found before →
    ((q : RangeAt) → has_point q at ≡ true → q.start < from → (b : Point) × (before ≡ Some b) × (has_point q b ≡ true)) →
    ((x : RangeAt) → Contains found x → Contains later x) →
    now ≡ es → ((q : RangeAt) → has_range now q ≡ true → has_point q at ≡ true → from ≤ q.start → Contains later q) → ((q : RangeAt) → Contains later q → Contains found q ⊎ (has_range now q ≡ true)) →
    AreFound es (take (k + 1) points) later (Some at)
found_more es points k at low is found later before from was early kept same new only = record {
  all = λ p m q there over. ⊎_elim (λ (n : Contains (take k points) p). kept q (was.all p n q there over))
      (λ (e : at ≡ p). here q there (subst (λ (z : Point). has_point q z ≡ true) (sym e) over)) (taken_cases points k at low is p m);
  last = λ b e. subst (λ (z : Point). Contains (take (k + 1) points) z) (some_is at b e) (taken_last points k at low is);
  only = λ q c. ⊎_elim (was.only q) (λ (t : has_range _ q ≡ true). sym (ap (λ xs. has_range xs q) same) ∙ t) (only q c);
}
  where
    some_is : (a b : Point) → Some a ≡ Some b → a ≡ b
    some_is a b e = cc

    here : (q : RangeAt) → has_range es q ≡ true → has_point q at ≡ true → Contains later q
    here q there over = ⊎_elim
        (λ (l : q.start < from). let b = early q over l in kept q (was.all b.0 (was.last b.0 b.1) q there b.2))
        (λ n. new q (ap (λ xs. has_range xs q) same ∙ there) over (omega arith))
        (known_less q.start from)
