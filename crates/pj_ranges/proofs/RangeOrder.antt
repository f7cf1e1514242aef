-- The order of ranges, and what the power of a range says of the points that it has.
use Rattle.std.proofs.Common.{◌≡◌, ◌∙◌, ◌&&◌, sym, ap, refl, ℕ, zero, suc, ◌*◌, ◌/◌, ◌<◌, ◌≤◌, ◌^◌, Bool, true, false, ◌⊎◌, inl, inr, cond, arith, nat_lt, nat_le, pow-suc}
use Rattle.std.specs.Cmp.{IsTotalOrder, on_total, then_total, nat_cmp_total}
use Rattle.std.specs.Ordering.{nat_cmp, ordering_then}
use Rattle.std.specs.declared.cmp.Ordering.{Ordering}
use Rattle.std.specs.declared.cmp.Ordering.TheVariants.{Less, Equal, Greater}
use Rattle.std.proofs.lemmas.Bool.Decides.{nat_tests}
use Rattle.std.proofs.lemmas.Bool.{and_parts}
use Rattle.std.proofs.lemmas.Cmp.{tied_itself}
use Rattle.pj_name.specs.Name.{name_cmp, same_name}
use Rattle.pj_name.proofs.Names.{name_cmp-total}
use Rattle.pj_change.specs.declared.point.Point.{Point}
use Rattle.pj_change.proofs.EqualNames.{name_tied, same_name_is, both_tie, offset_tied}
use Rattle.pj_ranges.specs.declared.range.HunkAt.{HunkAt}
use Rattle.pj_ranges.specs.declared.range.RangeAt.{RangeAt}
use Rattle.pj_ranges.specs.Units.{hunk_cmp, range_cmp, unit_from}
use Rattle.pj_ranges.specs.Over.{has_point}

pub hunk_total : IsTotalOrder hunk_cmp
hunk_total = then_total (on_total (λ (x : HunkAt). x.change) name_cmp-total) (on_total (λ (x : HunkAt). x.hunk) nat_cmp_total)

pub range_total : IsTotalOrder range_cmp
range_total =
    then_total (on_total (λ (r : RangeAt). r.owner) name_cmp-total)
    (then_total (on_total (λ (r : RangeAt). r.unit) nat_cmp_total)
    (then_total (on_total (λ (r : RangeAt). r.start) nat_cmp_total)
    (then_total (on_total (λ (r : RangeAt). r.end) nat_cmp_total) (on_total (λ (r : RangeAt). r.by) hunk_total))))

-- ---- numbers

-- the lesser number comes first
less_is : (m n : ℕ) → m < n → nat_cmp m n ≡ Less
less_is m n h = grind (arith, nat_tests)

-- the number that comes first is the lesser
pub less_of : (m n : ℕ) → nat_cmp m n ≡ Less → m < n
less_of m n h = grind (arith, nat_tests)

-- ---- ranges of one owner

abbrev by_unit : RangeAt → RangeAt → Ordering → Ordering
by_unit a b rest = ordering_then (nat_cmp a.unit b.unit) rest

abbrev end_cmp : RangeAt → RangeAt → Ordering
end_cmp a b = ordering_then (nat_cmp a.end b.end) (hunk_cmp a.by b.by)

abbrev start_cmp : RangeAt → RangeAt → Ordering
start_cmp a b = ordering_then (nat_cmp a.start b.start) (end_cmp a b)

of_owner : (a b : RangeAt) → a.owner ≡ b.owner → range_cmp a b ≡ by_unit a b (start_cmp a b)
of_owner a b e = ap (λ o. ordering_then o (by_unit a b (start_cmp a b))) (ap (name_cmp a.owner) (sym e) ∙ tied_itself name_cmp-total a.owner)

pub less_by_unit : (a b : RangeAt) → a.owner ≡ b.owner → a.unit < b.unit → range_cmp a b ≡ Less
less_by_unit a b e h = of_owner a b e ∙ ap (λ o. ordering_then o (start_cmp a b)) (less_is a.unit b.unit h)

of_unit : (a b : RangeAt) → a.owner ≡ b.owner → a.unit ≡ b.unit → range_cmp a b ≡ start_cmp a b
of_unit a b e f = of_owner a b e ∙ ap (λ o. ordering_then o (start_cmp a b)) (ap (nat_cmp a.unit) (sym f) ∙ tied_itself nat_cmp_total a.unit)

pub less_by_start : (a b : RangeAt) → a.owner ≡ b.owner → a.unit ≡ b.unit → a.start < b.start → range_cmp a b ≡ Less
less_by_start a b e f h = of_unit a b e f ∙ ap (λ o. ordering_then o (end_cmp a b)) (less_is a.start b.start h)

pub less_by_end : (a b : RangeAt) → a.owner ≡ b.owner → a.unit ≡ b.unit → a.start ≡ b.start → a.end < b.end → range_cmp a b ≡ Less
less_by_end a b e f g h =
    of_unit a b e f
    ∙ ap (λ o. ordering_then o (end_cmp a b)) (ap (nat_cmp a.start) (sym g) ∙ tied_itself nat_cmp_total a.start)
    ∙ ap (λ o. ordering_then o (hunk_cmp a.by b.by)) (less_is a.end b.end h)

-- of ranges that begin together, one that ends no later, by a hunk that is no later, is not after the other
pub upto_by_end : (a b : RangeAt) → a.owner ≡ b.owner → a.unit ≡ b.unit → a.start ≡ b.start → a.end ≤ b.end → (hunk_cmp a.by b.by ≡ Less) ⊎ (b.by ≡ a.by) → (range_cmp a b ≡ Less) ⊎ (b ≡ a)
upto_by_end a b e f g h hunks = by (nat_cmp a.end b.end) refl hunks
  where
    by : (o : Ordering) → nat_cmp a.end b.end ≡ o → (hunk_cmp a.by b.by ≡ Less) ⊎ (b.by ≡ a.by) → (range_cmp a b ≡ Less) ⊎ (b ≡ a)
    by Less is k = inl (less_by_end a b e f g (less_of a.end b.end is))
    by Equal is (inl less) = inl (of_unit a b e f ∙ ap (λ o. ordering_then o (end_cmp a b)) (ap (nat_cmp a.start) (sym g) ∙ tied_itself nat_cmp_total a.start) ∙ ap (λ o. ordering_then o (hunk_cmp a.by b.by)) is ∙ less)
    by Equal is (inr same) =
        let end : a.end ≡ b.end = offset_tied a.end b.end is in
        inr (λ i. record { owner = sym e i; unit = sym f i; start = sym g i; end = sym end i; by = same i })
    by Greater is k = absurd (let above : b.end < a.end = grind (arith, nat_tests) in omega arith)

-- ranges that the order does not tell apart are one
pub range_tied : (a b : RangeAt) → range_cmp a b ≡ Equal → a ≡ b
range_tied a b h =
    let o = both_tie (name_cmp a.owner b.owner) (by_unit a b (start_cmp a b)) h in
    let u = both_tie (nat_cmp a.unit b.unit) (start_cmp a b) o.1 in
    let s = both_tie (nat_cmp a.start b.start) (end_cmp a b) u.1 in
    let e = both_tie (nat_cmp a.end b.end) (hunk_cmp a.by b.by) s.1 in
    let k = both_tie (name_cmp a.by.change b.by.change) (nat_cmp a.by.hunk b.by.hunk) e.1 in
    let owner = name_tied a.owner b.owner o.0 in
    let unit = offset_tied a.unit b.unit u.0 in
    let start = offset_tied a.start b.start s.0 in
    let end = offset_tied a.end b.end e.0 in
    let change = name_tied a.by.change b.by.change k.0 in
    let hunk = offset_tied a.by.hunk b.by.hunk k.1 in
    λ i. record { owner = owner i; unit = unit i; start = start i; end = end i; by = record { change = change i; hunk = hunk i } }

-- a range after another of its owner is of a greater power, or of the same and begins no earlier
pub after_in_owner : (a b : RangeAt) → a.owner ≡ b.owner → range_cmp a b ≡ Less → (a.unit < b.unit) ⊎ ((a.unit ≡ b.unit) × (a.start ≤ b.start))
after_in_owner a b e h = by (nat_cmp a.unit b.unit) refl
  where
    starts : (o : Ordering) → nat_cmp a.start b.start ≡ o → start_cmp a b ≡ Less → a.start ≤ b.start
    starts Less f k = let l = less_of a.start b.start f in omega arith
    starts Equal f k = let l = offset_tied a.start b.start f in omega arith
    starts Greater f k = absurd (let g : start_cmp a b ≡ Greater = ap (λ o. ordering_then o (end_cmp a b)) f in let c : Greater ≡ Less = sym g ∙ k in cc)

    by : (o : Ordering) → nat_cmp a.unit b.unit ≡ o → (a.unit < b.unit) ⊎ ((a.unit ≡ b.unit) × (a.start ≤ b.start))
    by Less f = inl (less_of a.unit b.unit f)
    by Equal f =
        let u = offset_tied a.unit b.unit f in
        inr (u, starts (nat_cmp a.start b.start) refl (sym (of_unit a b e u) ∙ h))
    by Greater f = absurd (let g : range_cmp a b ≡ Greater = of_owner a b e ∙ ap (λ o. ordering_then o (start_cmp a b)) f in let c : Greater ≡ Less = sym g ∙ h in cc)

-- ---- ranges that have a point

pub record HasIt (r : RangeAt) (p : Point) : Type 0 where
  pub owner : r.owner ≡ p.change
  pub start : r.start ≤ p.offset
  pub end : p.offset < r.end

pub has_it : (r : RangeAt) (p : Point) → has_point r p ≡ true → HasIt r p
has_it r p h =
    let a = and_parts (same_name r.owner p.change && nat_le r.start p.offset) (nat_lt p.offset r.end) h in
    let b = and_parts (same_name r.owner p.change) (nat_le r.start p.offset) a.0 in
    record { owner = same_name_is r.owner p.change b.0; start = le_of r.start p.offset b.1; end = lt_of p.offset r.end a.1 }
  where
    le_of : (m n : ℕ) → nat_le m n ≡ true → m ≤ n
    le_of m n h = grind (arith, nat_tests)

    lt_of : (m n : ℕ) → nat_lt m n ≡ true → m < n
    lt_of m n h = grind (arith, nat_tests)

-- ---- powers

pub unit_fits : (left len : ℕ) → 0 < len → len < 2 ^ left → (unit_from left len ≤ len) × (len < unit_from left len * 2)
unfolding unit_from
unit_fits zero len some small = absurd (let e : 2 ^ 0 ≡ 1 = refl in omega arith)
unit_fits (suc left) len some small = by (nat_lt len 2) refl (unit_fits left (len / 2))
  where
    low_of : nat_lt len 2 ≡ true → len < 2
    low_of h = grind (arith, nat_tests)

    high_of : nat_lt len 2 ≡ false → 2 ≤ len
    high_of h = grind (arith, nat_tests)

    by : (b : Bool) → nat_lt len 2 ≡ b → (0 < len / 2 → len / 2 < 2 ^ left → (unit_from left (len / 2) ≤ len / 2) × (len / 2 < unit_from left (len / 2) * 2)) →
        (cond (nat_lt len 2) 1 (2 * unit_from left (len / 2)) ≤ len) × (len < cond (nat_lt len 2) 1 (2 * unit_from left (len / 2)) * 2)
    by true h rest = rw h (let l = low_of h in (omega arith, omega arith))
    by false h rest =
        let l = high_of h in
        let double : 2 ^ suc left ≡ 2 ^ left * 2 = pow-suc 2 left in
        let k = rest (omega arith) (omega arith) in
        rw h (let a = k.0 in let b = k.1 in (omega arith, omega arith))

-- ---- tests of names
