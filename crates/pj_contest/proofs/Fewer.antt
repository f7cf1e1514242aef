-- A table without a change.
use Rattle.std.proofs.Common.{◌≡◌, ℕ, ◌+◌, ◌≤◌, Bool, true, false, not, ◌&&◌, ◌||◌, ⊎_elim, List, [], ◌∷◌, Option, Some, None, refl, sym, ap, ◌∙◌, subst, arith, cond, count_by, map}
use Rattle.std.specs.Prelude.{Contains}
use Rattle.std.specs.List.{list_any}
use Rattle.std.specs.Ordering.{is_eq}
use Rattle.std.specs.declared.cmp.Ordering.{Ordering}
use Rattle.std.specs.Cmp.{Equal-is}
use Rattle.pj_name.specs.declared.name.Name.{Name}
use Rattle.pj_name.specs.Name.{same_name}
use Rattle.pj_change.specs.declared.point.Point.{Point}
use Rattle.pj_change.specs.declared.point.Place.{Place}
use Rattle.pj_change.specs.declared.hunk.Hunk.{Hunk}
use Rattle.pj_change.specs.declared.hunk.Hunk.TheVariants.{File, Dir, NameOf, Insert, Order, Delete, Revive}
use Rattle.pj_change.specs.declared.change.Record.{Record}
use Rattle.pj_change.specs.Lawful.{is_held}
use Rattle.pj_change.specs.Rules.{position_count}
use Rattle.pj_change.specs.Positions.{child_of, own_point}
use Rattle.pj_change.proofs.Members.{passes, none_passes, no_member}
use Rattle.pj_change.proofs.LawfulLists.{not_record, append_cases}
use Rattle.pj_change.proofs.PickedMembers.{image}
use Rattle.pj_ranges.specs.declared.range.HunkAt.{HunkAt}
use Rattle.pj_contest.specs.declared.marks.UpMark.{UpMark}
use Rattle.pj_contest.specs.declared.marks.BaseMark.{BaseMark}
use Rattle.pj_contest.specs.declared.marks.ChildMark.{ChildMark}
use Rattle.pj_ranges.specs.declared.range.RangeAt.{RangeAt}
use Rattle.pj_contest.specs.Sorting.{IsTight}
use Rattle.pj_rows.specs.Keys.{is_among}
use Rattle.pj_rows.proofs.KeyLemmas.{count_cons}
use Rattle.pj_contest.specs.Contests.{is_hit, count_of, own_count, knows_more}
use Rattle.pj_contest.specs.Given.{up_points, bases, up_rows, base_rows, child_rows, child_rows_from, child_row, range_in, ranges_from, deleted_ranges}
use Rattle.pj_contest.proofs.Counting.{bit, no_hit, counts_none}
use Rattle.pj_contest.proofs.Gathered.{one_member}
use Rattle.pj_contest.specs.Marks.{up_row, base_row}

-- ---- counts

-- what r hits is counted among what contests with r
pub hits_within : (S : List Record) (r : Record) → is_held S r.name ≡ false → (x : HunkAt) → bit (is_hit S x r) ≤ cond (same_name r.name x.change) (own_count S r x.hunk) (count_of S x + bit (is_hit S x r))
hits_within S r fresh x = by (same_name r.name x.change) refl
  where
    by : (b : Bool) → same_name r.name x.change ≡ b → bit (is_hit S x r) ≤ cond (same_name r.name x.change) (own_count S r x.hunk) (count_of S x + bit (is_hit S x r))
    by true s = let none : bit (is_hit S x r) ≡ 0 = ap bit (no_hit S r fresh x s r) in omega arith
    by false s = subst (λ b. bit (is_hit S x r) ≤ cond b (own_count S r x.hunk) (count_of S x + bit (is_hit S x r))) (sym s) (let n = bit (is_hit S x r) in omega arith)

-- the count that is left
pub left_is : (S : List Record) (r : Record) → is_held S r.name ≡ false → (x : HunkAt) (later lowered : ℕ) → later ≡ cond (same_name r.name x.change) 0 lowered →
    lowered + bit (is_hit S x r) ≡ cond (same_name r.name x.change) (own_count S r x.hunk) (count_of S x + bit (is_hit S x r)) → later ≡ count_of S x
left_is S r fresh x later lowered e sum = by (same_name r.name x.change) refl
  where
    less : (m n k : ℕ) → m + k ≡ n + k → m ≡ n
    less m n k h = omega arith

    by : (b : Bool) → same_name r.name x.change ≡ b → later ≡ count_of S x
    by true s = e ∙ ap (λ b. cond b 0 lowered) s ∙ sym (counts_none S r fresh x s)
    by false s = e ∙ ap (λ b. cond b 0 lowered) s ∙ less lowered (count_of S x) (bit (is_hit S x r)) (sum ∙ ap (λ b. cond b (own_count S r x.hunk) (count_of S x + bit (is_hit S x r))) s)

-- ---- those that know more

-- r is counted among them
pub known_within : (S : List Record) (r : Record) (now : ℕ) → now ≡ count_by knows_more (r ∷ S) → cond (knows_more r) 1 0 ≤ now
known_within S r now is = let both = is ∙ count_cons knows_more r S in omega arith

-- those that are left
pub known_left : (S : List Record) (r : Record) (left now : ℕ) → cond (knows_more r) 1 0 + left ≡ now → now ≡ count_by knows_more (r ∷ S) → left ≡ count_by knows_more S
known_left S r left now e is = same_left (cond (knows_more r) 1 0) left (count_by knows_more S) (e ∙ is ∙ count_cons knows_more r S)
  where
    same_left : (m x y : ℕ) → m + x ≡ m + y → x ≡ y
    same_left m x y h = omega arith

-- ---- rows

module _ {K : Type 0} (cmp : K → K → Ordering) (tight : IsTight cmp) where
  among_is : (q : K) (ks : List K) → is_among cmp q ks ≡ true → Contains ks q
  among_is q ks e = let k = passes (λ x. is_eq (cmp q x)) ks e in subst (Contains ks) (sym (tight q k.it ((Equal-is (cmp q k.it)).0 k.is))) k.member

  -- where the rows of the others are none of r's, those of the others are left
  pub rows_left : (rows : Record → List K) (S : List Record) (r : Record) → ((i : Record) → Contains S i → (q : K) → Contains (rows i) q → Contains (rows r) q → ⊥) → (q : K) →
      (not (is_among cmp q (rows r)) && (is_among cmp q (rows r) || list_any (λ i. is_among cmp q (rows i)) S)) ≡ list_any (λ i. is_among cmp q (rows i)) S
  rows_left rows S r none q = by (is_among cmp q (rows r)) refl
    where
      other : is_among cmp q (rows r) ≡ true → (i : Record) → Contains S i → (b : Bool) → is_among cmp q (rows i) ≡ b → is_among cmp q (rows i) ≡ false
      other e i m true f = absurd (none i m q (among_is q (rows i) f) (among_is q (rows r) e))
      other e i m false f = f

      by : (b : Bool) → is_among cmp q (rows r) ≡ b → (not (is_among cmp q (rows r)) && (is_among cmp q (rows r) || list_any (λ i. is_among cmp q (rows i)) S)) ≡ list_any (λ i. is_among cmp q (rows i)) S
      by true e = ap (λ b. not b && (b || list_any (λ i. is_among cmp q (rows i)) S)) e ∙ sym (none_passes (λ i. is_among cmp q (rows i)) S (λ i m. other e i m (is_among cmp q (rows i)) refl))
      by false e = ap (λ b. not b && (b || list_any (λ i. is_among cmp q (rows i)) S)) e

-- ---- whose a row is

some_is : {X : Type 0} (a b : X) → Some a ≡ Some b → a ≡ b
some_is a b e = cc

child_named : (r : Record) (first : ℕ) (hs : List Hunk) (k : ChildMark) → Contains (child_rows_from r first hs) k → (p : Point) × (k.by ≡ Some p) × (p.change ≡ r.name)
child_named r first [] k m = absurd (no_member k m)
child_named r first (h ∷ hs) k m = ⊎_elim (λ (a : Contains (child_row r first (child_of r first h)) k). by (child_of r first h) a) (λ (b : Contains (child_rows_from r (first + position_count h) hs) k). child_named r (first + position_count h) hs k b)
    (append_cases (child_row r first (child_of r first h)) (child_rows_from r (first + position_count h) hs) k m)
  where
    by : (c : Option Place) → Contains (child_row r first c) k → (p : Point) × (k.by ≡ Some p) × (p.change ≡ r.name)
    by None a = absurd (no_member k a)
    by (Some place) a = (own_point r first, ap (λ (x : ChildMark). x.by) (sym (one_member _ k a)), refl)

range_named : (r : Record) (n : ℕ) (hs : List Hunk) (q : RangeAt) → Contains (ranges_from r n hs) q → q.by.change ≡ r.name
range_named r n [] q m = absurd (no_member q m)
range_named r n (h ∷ hs) q m = ⊎_elim (λ (a : Contains (range_in r n h) q). by h a) (λ (b : Contains (ranges_from r (n + 1) hs) q). range_named r (n + 1) hs q b) (append_cases (range_in r n h) (ranges_from r (n + 1) hs) q m)
  where
    by : (g : Hunk) → Contains (range_in r n g) q → q.by.change ≡ r.name
    by (File parent name exec) a = absurd (no_member q a)
    by (Dir parent name) a = absurd (no_member q a)
    by (NameOf parent child name exec) a = absurd (no_member q a)
    by (Insert file ups downs bytes) a = absurd (no_member q a)
    by (Order file source target) a = absurd (no_member q a)
    by (Revive owner start end names) a = absurd (no_member q a)
    by (Delete owner start end names) a = ap (λ (x : RangeAt). x.by.change) (sym (one_member _ q a))

module _ (S : List Record) (r : Record) (fresh : is_held S r.name ≡ false) where
  other_name : (i : Record) → Contains S i → i.name ≡ r.name → ⊥
  other_name i m e = not_record S r.name fresh i (record { member = m; named = e })

  rows_apart : {A K : Type 0} (by : K → Option Name) (row_of : A → Name → K) → ((at : A) (n : Name) → by (row_of at n) ≡ Some n) → (i : Record) → Contains S i → (xs ys : List A) (q : K) →
      Contains (map (λ at. row_of at i.name) xs) q → Contains (map (λ at. row_of at r.name) ys) q → ⊥
  rows_apart {A} by row_of named i m xs ys q a b =
      let u = image (λ (at : A). row_of at i.name) xs q a in
      let v = image (λ (at : A). row_of at r.name) ys q b in
      other_name i m (some_is i.name r.name (sym (named u.it i.name) ∙ ap by (u.is ∙ sym v.is) ∙ named v.it r.name))

  pub ups_apart : (i : Record) → Contains S i → (q : UpMark) → Contains (up_rows i) q → Contains (up_rows r) q → ⊥
  ups_apart i m q a b = rows_apart (λ m. m.by) up_row (λ at n. refl) i m (up_points i) (up_points r) q a b

  pub bases_apart : (i : Record) → Contains S i → (q : BaseMark) → Contains (base_rows i) q → Contains (base_rows r) q → ⊥
  bases_apart i m q a b = rows_apart (λ m. m.by) base_row (λ at n. refl) i m (bases i) (bases r) q a b

  pub children_apart : (i : Record) → Contains S i → (q : ChildMark) → Contains (child_rows i) q → Contains (child_rows r) q → ⊥
  children_apart i m q a b =
      let u = child_named i 0 i.change.hunks q a in
      let v = child_named r 0 r.change.hunks q b in
      other_name i m (sym u.2 ∙ ap (λ (p : Point). p.change) (some_is u.0 v.0 (sym u.1 ∙ v.1)) ∙ v.2)

  pub ranges_apart : (i : Record) → Contains S i → (q : RangeAt) → Contains (deleted_ranges i) q → Contains (deleted_ranges r) q → ⊥
  ranges_apart i m q a b = other_name i m (sym (range_named i 0 i.change.hunks q a) ∙ range_named r 0 r.change.hunks q b)
