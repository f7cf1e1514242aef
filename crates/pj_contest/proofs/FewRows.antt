-- No more rows than the references and the hunks allow.
use Rattle.std.proofs.Common.{ℕ, ◌+◌, ◌*◌, ◌≤◌, List, [], ◌∷◌, arith, length, length-append}
use Rattle.std.specs.Prelude.{flat_map, sum_by, count_by}
use Rattle.std.proofs.lemmas.List.{length-map}
use Rattle.std.proofs.lemmas.List.Sums.{sum_by-cons}
use Rattle.pj_change.specs.declared.point.Place.{Place}
use Rattle.pj_change.specs.declared.point.Place.TheVariants as placed
use Rattle.pj_change.specs.declared.point.Ref.{Ref}
use Rattle.pj_change.specs.declared.hunk.Hunk.{Hunk}
use Rattle.pj_change.specs.declared.hunk.Hunk.TheVariants.{File, Dir, NameOf, Insert, Order, Delete, Revive}
use Rattle.pj_change.specs.declared.change.Record.{Record}
use Rattle.pj_change.specs.Rules.{position_count}
use Rattle.pj_change.specs.Positions.{resolve, child_of}
use Rattle.pj_change.specs.Contested.{base_of}
use Rattle.pj_change.specs.Weight.{refs_of}
use Rattle.pj_change.specs.ContestCounts.{is_contested_by, contests_of, pairs_with}
use Rattle.pj_contest.specs.Marks.{up_row, base_row}
use Rattle.pj_contest.specs.Given.{points_at, up_points, up_points_in, bases, bases_at, child_row, child_rows_from, range_in, ranges_from, rows_of, size_of}

up_one : (p : Place) → length (points_at p) ≤ 1
up_one placed.Root = omega arith
up_one (placed.At p) = omega arith

ups_few : (r : Record) (ups : List Ref) → length (flat_map (λ up. points_at (resolve r up)) ups) ≤ length ups
ups_few r [] = omega arith
ups_few r (up ∷ ups) =
    let one = up_one (resolve r up) in
    let rest = ups_few r ups in
    let sum = length-append (points_at (resolve r up)) (flat_map (λ up. points_at (resolve r up)) ups) in
    omega arith

hunk_few : (r : Record) (first k : ℕ) (h : Hunk) → length (up_points_in r h) + length (bases_at r (base_of h)) + length (child_row r first (child_of r first h)) + length (range_in r k h) + 1 ≤ 4 * (1 + length (refs_of h))
hunk_few r first k (File parent name exec) = omega arith
hunk_few r first k (Dir parent name) = omega arith
hunk_few r first k (NameOf parent child name exec) = omega arith
hunk_few r first k (Insert file ups downs bytes) = let few = ups_few r ups in let both = length-append ups downs in omega arith
hunk_few r first k (Order file source target) = omega arith
hunk_few r first k (Delete owner start end names) = omega arith
hunk_few r first k (Revive owner start end names) = omega arith

rows_from : (r : Record) (first k : ℕ) (hs : List Hunk) →
    length (flat_map (up_points_in r) hs) + length (flat_map (λ h. bases_at r (base_of h)) hs) + length (child_rows_from r first hs) + length (ranges_from r k hs) + length hs ≤ 4 * (length hs + sum_by (λ h. length (refs_of h)) hs)
rows_from r first k [] = omega arith
rows_from r first k (h ∷ hs) =
    let one = hunk_few r first k h in
    let rest = rows_from r (first + position_count h) (k + 1) hs in
    let a = length-append (up_points_in r h) (flat_map (up_points_in r) hs) in
    let b = length-append (bases_at r (base_of h)) (flat_map (λ h. bases_at r (base_of h)) hs) in
    let c = length-append (child_row r first (child_of r first h)) (child_rows_from r (first + position_count h) hs) in
    let d = length-append (range_in r k h) (ranges_from r (k + 1) hs) in
    let e = sum_by-cons (λ h. length (refs_of h)) h hs in
    omega arith

-- the rows of a change and its hunks are within four times its size
pub rows_few : (r : Record) → rows_of r + length r.change.hunks ≤ 4 * size_of r
rows_few r =
    let all = rows_from r 0 0 r.change.hunks in
    let ups = length-map (up_points r) (λ p. up_row p r.name) in
    let bs = length-map (bases r) (λ c. base_row c r.name) in
    omega arith

few_sum : (old now hits own rows size mine others : ℕ) → rows + own ≤ 4 * size → hits ≤ others → now ≤ old + hits + own + rows → now ≤ old + 4 * (size + (mine + others))
few_sum old now hits own rows size mine others a b c = omega arith

-- what the parts of a change of a table cost together
pub few_steps : (S : List Record) (r : Record) (old now hits : ℕ) → hits ≤ sum_by (λ d. count_by (λ h. is_contested_by S d h r) d.change.hunks) S → now ≤ old + hits + length r.change.hunks + rows_of r → now ≤ old + 4 * (size_of r + pairs_with S r)
few_steps S r old now hits few steps =
    few_sum old now hits (length r.change.hunks) (rows_of r) (size_of r) (sum_by (contests_of S r) r.change.hunks) (sum_by (λ d. count_by (λ h. is_contested_by S d h r) d.change.hunks) S) (rows_few r) few steps
