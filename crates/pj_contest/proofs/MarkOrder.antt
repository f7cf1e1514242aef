-- The orders of rows, and the rows between two bounds.
use Rattle.std.proofs.Common.{◌≡◌, sym, ap, refl, ℕ, ◌≤◌, ◌<◌, Bool, true, false, ◌⊎◌, inl, inr, ⊎_elim, Option, Some, None, arith}
use Rattle.std.specs.Cmp.{IsTotalOrder, on_total, then_total, bool_cmp_total, nat_cmp_is}
use Rattle.std.specs.Cmp.Lexicographic.{options_total}
use Rattle.std.specs.Ordering.{on, then_cmp, nat_cmp, bool_cmp}
use Rattle.std.specs.Option.{option_cmp}
use Rattle.std.specs.declared.cmp.Ordering.{Ordering}
use Rattle.std.specs.declared.cmp.Ordering.TheVariants.{Less, Equal}
use Rattle.pj_name.specs.declared.name.Name.{Name}
use Rattle.pj_name.specs.Name.{name_cmp}
use Rattle.pj_name.proofs.Names.{name_cmp-total}
use Rattle.pj_change.specs.declared.point.Point.{Point}
use Rattle.pj_change.specs.Graph.{point_cmp}
use Rattle.pj_change.proofs.Decided.{known_less}
use Rattle.pj_change.proofs.EqualNames.{name_tied, point_tied, offset_tied, both_tie}
use Rattle.pj_change.proofs.Orders.{point_total}
use Rattle.pj_ranges.specs.declared.range.HunkAt.{HunkAt}
use Rattle.pj_ranges.specs.Units.{hunk_cmp}
use Rattle.pj_contest.specs.declared.marks.UpMark.{UpMark}
use Rattle.pj_contest.specs.declared.marks.BaseMark.{BaseMark}
use Rattle.pj_contest.specs.declared.marks.ChildMark.{ChildMark}
use Rattle.pj_contest.specs.Marks.{up_cmp, base_cmp, child_cmp}
use Rattle.pj_contest.specs.Sorting.{IsTight}

-- ---- what the keys of the three indexes have in common

-- what stands at a place, and by whom
pub record Mark (A B : Type 0) : Type 0 where
  pub at : A
  pub past : Bool
  pub by : Option B

-- by place; at a place the lower bound, the rows, the upper bound
abbrev pub mark_cmp : {A B : Type 0} → (A → A → Ordering) → (B → B → Ordering) → Mark A B → Mark A B → Ordering
mark_cmp a b = then_cmp (on (λ m. m.at) a) (then_cmp (on (λ m. m.past) bool_cmp) (on (λ m. m.by) (option_cmp b)))

-- the row at this place, by this one
abbrev pub row : {A B : Type 0} → A → B → Mark A B
row at by = record { at = at; past = false; by = Some by }

-- below the rows of a place
abbrev pub low_bound : {A B : Type 0} → A → Mark A B
low_bound at = record { at = at; past = false; by = None }

-- above the rows of a place
abbrev pub high_bound : {A B : Type 0} → A → Mark A B
high_bound at = record { at = at; past = true; by = None }

pub mark_total : {A B : Type 0} {a : A → A → Ordering} {b : B → B → Ordering} → IsTotalOrder a → IsTotalOrder b → IsTotalOrder (mark_cmp a b)
mark_total s t = then_total (on_total (λ m. m.at) s) (then_total (on_total (λ m. m.past) bool_cmp_total) (on_total (λ m. m.by) (options_total t)))

-- a row is above the bound of its place and of each place below, and likewise below
pub above_bound : {A B : Type 0} (a : A → A → Ordering) (b : B → B → Ordering) (from at : A) (by : B) → (a from at ≡ Less) ⊎ (a from at ≡ Equal) → mark_cmp a b (low_bound from) (row at by) ≡ Less
above_bound a b from at by (inl h) = rw h refl
above_bound a b from at by (inr h) = rw h refl

pub below_bound : {A B : Type 0} (a : A → A → Ordering) (b : B → B → Ordering) (upto at : A) (by : B) → (a at upto ≡ Less) ⊎ (a at upto ≡ Equal) → mark_cmp a b (row at by) (high_bound upto) ≡ Less
below_bound a b upto at by (inl h) = rw h refl
below_bound a b upto at by (inr h) = rw h refl

pub nat_upto : (x y : ℕ) → x ≤ y → (nat_cmp x y ≡ Less) ⊎ (nat_cmp x y ≡ Equal)
nat_upto x y h = ⊎_elim (λ (l : x < y). inl (sym (nat_cmp_is x y Less l))) (λ n. inr (sym (nat_cmp_is x y Equal (let e : y ≤ x = omega arith in omega arith)))) (known_less x y)

-- ---- keys that tie are equal

bool_tied : (a b : Bool) → bool_cmp a b ≡ Equal → a ≡ b
bool_tied false false h = refl
bool_tied false true h = absurd (cc)
bool_tied true false h = absurd (cc)
bool_tied true true h = refl

pub option_tied : {B : Type 0} (b : B → B → Ordering) → ((x y : B) → b x y ≡ Equal → x ≡ y) → (x y : Option B) → option_cmp b x y ≡ Equal → x ≡ y
option_tied b t None None h = refl
option_tied b t None (Some y) h = absurd (cc)
option_tied b t (Some x) None h = absurd (cc)
option_tied b t (Some x) (Some y) h = ap Some (t x y h)

pub hunk_tied : (x y : HunkAt) → hunk_cmp x y ≡ Equal → x ≡ y
hunk_tied x y h =
    let t = both_tie (name_cmp x.change y.change) (nat_cmp x.hunk y.hunk) h in
    let e = name_tied x.change y.change t.0 in
    let f = offset_tied x.hunk y.hunk t.1 in
    λ i. record { change = e i; hunk = f i }

pub mark_tied : {A B : Type 0} (a : A → A → Ordering) (b : B → B → Ordering) → ((x y : A) → a x y ≡ Equal → x ≡ y) → ((x y : B) → b x y ≡ Equal → x ≡ y) → (m n : Mark A B) → mark_cmp a b m n ≡ Equal → m ≡ n
mark_tied a b ta tb m n h =
    let x = both_tie (a m.at n.at) _ h in
    let y = both_tie (bool_cmp m.past n.past) (option_cmp b m.by n.by) x.1 in
    let e = ta m.at n.at x.0 in
    let f = bool_tied m.past n.past y.0 in
    let g = option_tied b tb m.by n.by y.1 in
    λ i. record { at = e i; past = f i; by = g i }

-- ---- the keys of the three indexes

-- below the rows of an up, and above those of the ups before it
abbrev pub up_bound : Point → UpMark
up_bound at = record { at = at; by = None }

-- below the rows of a base
abbrev pub base_low : Option Point → BaseMark
base_low at = record { at = at; past = false; by = None }

-- above the rows of a base
abbrev pub base_high : Option Point → BaseMark
base_high at = record { at = at; past = true; by = None }

-- below the rows of a child
abbrev pub child_low : Option Point → ChildMark
child_low at = record { at = at; past = false; by = None }

-- above the rows of a child
abbrev pub child_high : Option Point → ChildMark
child_high at = record { at = at; past = true; by = None }

abbrev base_mark : BaseMark → Mark (Option Point) Name
base_mark m = record { at = m.at; past = m.past; by = m.by }

abbrev child_mark : ChildMark → Mark (Option Point) Point
child_mark m = record { at = m.at; past = m.past; by = m.by }

pub up_total : IsTotalOrder up_cmp
up_total = then_total (on_total (λ m. m.at) point_total) (on_total (λ m. m.by) (options_total name_cmp-total))

pub up_tied : IsTight up_cmp
up_tied m n h =
    let x = both_tie (point_cmp m.at n.at) (option_cmp name_cmp m.by n.by) h in
    let e = point_tied m.at n.at x.0 in
    let g = option_tied name_cmp name_tied m.by n.by x.1 in
    λ i. record { at = e i; by = g i }

pub base_total : IsTotalOrder base_cmp
base_total = on_total base_mark (mark_total (options_total point_total) name_cmp-total)

pub base_tied : IsTight base_cmp
base_tied m n h =
    let e = mark_tied (option_cmp point_cmp) name_cmp (option_tied point_cmp point_tied) name_tied (base_mark m) (base_mark n) h in
    λ i. record { at = (e i).at; past = (e i).past; by = (e i).by }

pub child_total : IsTotalOrder child_cmp
child_total = on_total child_mark (mark_total (options_total point_total) point_total)

pub child_tied : IsTight child_cmp
child_tied m n h =
    let e = mark_tied (option_cmp point_cmp) point_cmp (option_tied point_cmp point_tied) point_tied (child_mark m) (child_mark n) h in
    λ i. record { at = (e i).at; past = (e i).past; by = (e i).by }

pub place_tied : IsTight (option_cmp point_cmp)
place_tied = option_tied point_cmp point_tied
