-- Counts by their binary digits.
use Rattle.std.proofs.Common.{◌≡◌, ℕ, zero, suc, ◌+◌, ◌-◌, ◌*◌, ◌^◌, ◌<◌, ◌≤◌, Bool, true, false, List, [], ◌∷◌, ◌++◌, length, get_or, set, take, drop, nat_eq, refl, ◌∙◌, ap, arith, add-one, length-set, length-take, drop-cons}
use Rattle.std.specs.Prelude.{◌||◌, ◌&&◌, not, All}
use Rattle.std.proofs.Math.Nat.{pow-suc}
use Rattle.std.proofs.Math.Seq.{take-suc-set}
use Rattle.std.proofs.Math.Bool.{or-false}
use Rattle.std.proofs.lemmas.Bool.{ne_eqb, or_right}
use Rattle.std.proofs.lemmas.Nat.{pow_pos}
use Rattle.std.proofs.lemmas.List.Elements.{All-get_or, All-set}
use Rattle.pj_bits.specs.Row.{differ, has}
use Rattle.pj_layout.specs.Counts.{count, digit}

-- ---- one digit is

pub count_set : (rows : List (List Bool)) (k : ℕ) (new : List Bool) (c : ℕ) → k < length rows →
    count (set rows k new) c + 2 ^ k * digit (has (get_or rows k []) c) ≡ count rows c + 2 ^ k * digit (has new c)
count_set [] k new c h = absurd (omega arith)
count_set (row ∷ rows) zero new c h = omega arith
count_set (row ∷ rows) (suc k) new c h = (let rest = count_set rows k new c (omega arith) in let step : 2 ^ suc k ≡ 2 ^ k * 2 = pow-suc 2 k in rw step (omega arith))

pub count_push : (rows : List (List Bool)) (new : List Bool) (c : ℕ) → count (rows ++ new ∷ []) c ≡ count rows c + 2 ^ length rows * digit (has new c)
count_push [] new c = omega arith
count_push (row ∷ rows) new c = (let rest = count_push rows new c in let step : 2 ^ suc (length rows) ≡ 2 ^ length rows * 2 = pow-suc 2 (length rows) in rw step (omega arith))

pub digit_below : (b : Bool) → digit b < 2
digit_below true = omega arith
digit_below false = omega arith

pub count_below : (rows : List (List Bool)) (c : ℕ) → count rows c < 2 ^ length rows
count_below [] c = omega arith
count_below (row ∷ rows) c = (let rest = count_below rows c in let first = digit_below (has row c) in let step : 2 ^ suc (length rows) ≡ 2 ^ length rows * 2 = pow-suc 2 (length rows) in rw step (omega arith))

pub zero_digit : (b : Bool) → digit b ≡ 0 → b ≡ false
zero_digit true e = absurd (omega arith)
zero_digit false e = refl

-- the rows have one width
abbrev pub AreWide : ℕ → List (List Bool) → Type 0
AreWide width rows = All (λ (row : List Bool). length row ≡ width) rows

-- ---- a row is added, digit by digit

digits_added : (a b : Bool) → digit (differ a b) + 2 * digit (a && b) ≡ digit a + digit b
digits_added true true = omega arith
digits_added true false = omega arith
digits_added false true = omega arith
digits_added false false = omega arith

-- the first k digits are added, and the row has what is carried to the next one
pub record Raised (start now : List (List Bool)) (first row : List Bool) (k : ℕ) : Type 0 where
  pub long : length now ≡ length start
  pub wide : AreWide (length first) now
  pub row_width : length row ≡ length first
  pub sum : (c : ℕ) → count now c + 2 ^ k * digit (has row c) ≡ count start c + digit (has first c)

pub raised_more : (start now : List (List Bool)) (first row old new carry : List Bool) (k : ℕ) → k < length now → old ≡ get_or now k [] →
    length new ≡ length old → length carry ≡ length row → ((c : ℕ) → has new c ≡ differ (has old c) (has row c)) → ((c : ℕ) → has carry c ≡ (has old c && has row c)) →
    Raised start now first row k → Raised start (set now k new) first carry (k + 1)
raised_more start now first row old new carry k inside is width carry_width sum carried r = record {
  long = (let e = length-set now k new in e ∙ r.long);
  wide = All-set (λ (d : List Bool). length d ≡ length first) now k new (width ∙ rw is (All-get_or (λ (d : List Bool). length d ≡ length first) now k [] inside r.wide)) r.wide;
  row_width = carry_width ∙ r.row_width;
  sum = λ c.
      let step : 2 ^ (k + 1) ≡ 2 ^ k * 2 = rw add-one (pow-suc 2 k) in
      let placed : count (set now k new) c + 2 ^ k * digit (has old c) ≡ count now c + 2 ^ k * digit (has new c) = rw is (count_set now k new c inside) in
      let added : digit (has new c) + 2 * digit (has carry c) ≡ digit (has old c) + digit (has row c) = rw (sum c, carried c) (digits_added (has old c) (has row c)) in
      let scaled : 2 ^ k * (digit (has new c) + 2 * digit (has carry c)) ≡ 2 ^ k * (digit (has old c) + digit (has row c)) = ap (λ x. 2 ^ k * x) added in
      let was = r.sum c in
      rw step (omega arith);
}

-- ---- a row is subtracted, digit by digit

digits_subtracted : (a b : Bool) → digit (differ a b) + digit b ≡ digit a + 2 * digit (not a && b)
digits_subtracted true true = omega arith
digits_subtracted true false = omega arith
digits_subtracted false true = omega arith
digits_subtracted false false = omega arith

-- the first k digits are subtracted, the row has what is borrowed of the next one, and the columns of which digits are left are seen
pub record Lowered (start now : List (List Bool)) (first row seen_first seen : List Bool) (k : ℕ) : Type 0 where
  pub long : length now ≡ length start
  pub wide : AreWide (length first) now
  pub row_width : length row ≡ length first
  pub seen_width : length seen ≡ length seen_first
  pub rest : (c : ℕ) → count now c + digit (has first c) ≡ count start c + 2 ^ k * digit (has row c)
  pub seen_is : (c : ℕ) → has seen c ≡ (has seen_first c || not (nat_eq (count (take k now) c) 0))

-- a count is not 0 where a lower part of it is not, or one more digit is set
counted_more : (low k : ℕ) (b : Bool) → (not (nat_eq low 0) || b) ≡ not (nat_eq (low + 2 ^ k * digit b) 0)
counted_more low k false = (let e : low + 2 ^ k * 0 ≡ low = omega arith in rw e (or-false (not (nat_eq low 0))))
counted_more low k true = (
    let p = pow_pos k in
    let e : nat_eq (low + 2 ^ k * 1) 0 ≡ false = ne_eqb (low + 2 ^ k * 1) 0 (λ z. omega arith) in
    rw e (or_right (not (nat_eq low 0)) true refl)
    )

or_assoc : (x y z : Bool) → ((x || y) || z) ≡ (x || (y || z))
or_assoc true y z = refl
or_assoc false y z = refl

pub lowered_more : (start now : List (List Bool)) (first row old new borrow seen_first seen seen_next : List Bool) (k : ℕ) → k < length now → old ≡ get_or now k [] →
    length new ≡ length old → length borrow ≡ length row → length seen_next ≡ length seen →
    ((c : ℕ) → has new c ≡ differ (has old c) (has row c)) → ((c : ℕ) → has borrow c ≡ (not (has old c) && has row c)) → ((c : ℕ) → has seen_next c ≡ (has seen c || has new c)) →
    Lowered start now first row seen_first seen k → Lowered start (set now k new) first borrow seen_first seen_next (k + 1)
lowered_more start now first row old new borrow seen_first seen seen_next k inside is width borrow_width seen_width difference borrowed seen_is r = record {
  long = (let e = length-set now k new in e ∙ r.long);
  wide = All-set (λ (d : List Bool). length d ≡ length first) now k new (width ∙ rw is (All-get_or (λ (d : List Bool). length d ≡ length first) now k [] inside r.wide)) r.wide;
  row_width = borrow_width ∙ r.row_width;
  seen_width = seen_width ∙ r.seen_width;
  rest = λ c.
      let step : 2 ^ (k + 1) ≡ 2 ^ k * 2 = rw add-one (pow-suc 2 k) in
      let placed : count (set now k new) c + 2 ^ k * digit (has old c) ≡ count now c + 2 ^ k * digit (has new c) = rw is (count_set now k new c inside) in
      let taken : digit (has new c) + digit (has row c) ≡ digit (has old c) + 2 * digit (has borrow c) = rw (difference c, borrowed c) (digits_subtracted (has old c) (has row c)) in
      let scaled : 2 ^ k * (digit (has new c) + digit (has row c)) ≡ 2 ^ k * (digit (has old c) + 2 * digit (has borrow c)) = ap (λ x. 2 ^ k * x) taken in
      let was = r.rest c in
      rw step (omega arith);
  seen_is = λ c.
      let front : take (k + 1) (set now k new) ≡ take k now ++ new ∷ [] = rw add-one (take-suc-set now k new inside) in
      let long : length (take k now) ≡ k = rw (length-take k now) (omega arith) in
      let low : count (take (k + 1) (set now k new)) c ≡ count (take k now) c + 2 ^ k * digit (has new c) = ap (λ rows. count rows c) front ∙ rw long at (count_push (take k now) new c) in
      seen_is c ∙ ap (λ b. b || has new c) (r.seen_is c) ∙ or_assoc (has seen_first c) (not (nat_eq (count (take k now) c) 0)) (has new c)
      ∙ rw low (ap (λ b. has seen_first c || b) (counted_more (count (take k now) c) k (has new c)));
}

-- nothing is borrowed past the last digit, where there is enough
pub all_lowered : (start now : List (List Bool)) (first row seen_first seen : List Bool) (k : ℕ) → k ≡ length start → ((c : ℕ) → digit (has first c) ≤ count start c) → Lowered start now first row seen_first seen k →
    (c : ℕ) → count now c + digit (has first c) ≡ count start c
all_lowered start now first row seen_first seen k whole enough r c = bounded (has row c) refl
  where
    bounded : (b : Bool) → has row c ≡ b → count now c + digit (has first c) ≡ count start c
    bounded false e = (let none : digit (has row c) ≡ 0 = rw e refl in let was = r.rest c in let product : 2 ^ k * digit (has row c) ≡ 0 = rw none (omega arith) in omega arith)
    bounded true e = absurd (
        let one : digit (has row c) ≡ 1 = rw e refl in
        let was = r.rest c in
        let power : 2 ^ k ≡ 2 ^ length now = rw (whole, r.long) refl in
        let product : 2 ^ k * digit (has row c) ≡ 2 ^ length now = rw one (omega arith) in
        omega (arith, count_below now c, enough c)
        )

-- ---- a count is read, from its highest digit

pub count_at : (rows : List (List Bool)) (k c : ℕ) → k < length rows → count (drop k rows) c ≡ 2 * count (drop (k + 1) rows) c + digit (has (get_or rows k []) c)
count_at rows k c inside = ap (λ rest. count rest c) (drop-cons rows k [] inside) ∙ rw add-one (omega arith)

-- the higher digits make no more than all
pub part_below : (rows : List (List Bool)) (k c : ℕ) → count (drop k rows) c ≤ count rows c
part_below rows zero c = omega arith
part_below [] (suc k) c = omega arith
part_below (row ∷ rows) (suc k) c = (let rest = part_below rows k c in omega arith)

-- twice the higher digits, and one more, make no more than all
pub read_below : (rows : List (List Bool)) (k c : ℕ) → 0 < k → k ≤ length rows → 2 * count (drop k rows) c + digit (has (get_or rows (k - 1) []) c) ≤ count rows c
read_below rows k c some inside = (let e : k - 1 + 1 ≡ k = omega arith in let at = rw e at (count_at rows (k - 1) c (omega arith)) in let part = part_below rows (k - 1) c in omega arith)

-- ---- one more row that is clear

pub clear_push : (rows : List (List Bool)) (new : List Bool) (c : ℕ) → count rows c ≡ 0 → has new c ≡ false → count (rows ++ new ∷ []) c ≡ 0
clear_push rows new c none clear = count_push rows new c ∙ rw (none, clear) (omega arith)
