-- The steps of the tables for a change are within its bound.
use Rattle.std.proofs.Common.{ℕ, ◌+◌, ◌-◌, ◌*◌, ◌≤◌, List, [], ◌∷◌, ◌++◌, length, arith, sum_by, length-append}
use Rattle.std.specs.Prelude.{flat_map}
use Rattle.std.proofs.lemmas.List.Sums.{sum_by-cons}
use Rattle.pj_change.specs.declared.point.Place.{Place}
use Rattle.pj_change.specs.declared.point.Place.TheVariants as placed
use Rattle.pj_change.specs.declared.hunk.Hunk.{Hunk}
use Rattle.pj_change.specs.declared.hunk.Hunk.TheVariants.{File, Dir, NameOf, Insert, Order, Delete, Revive}
use Rattle.pj_change.specs.declared.change.Record.{Record}
use Rattle.pj_change.specs.Positions.{resolve, own_point}
use Rattle.pj_name.specs.declared.name.Name.{Name}
use Rattle.pj_change.specs.declared.graph.Label.{Label}
use Rattle.pj_change.specs.declared.graph.Label.TheVariants as label
use Rattle.pj_change.specs.Rules.{position_count}
use Rattle.pj_change.specs.Covers.{by_of}
use Rattle.pj_change.specs.CutCounts.{cut_points, point_after, point_at}
use Rattle.pj_change.specs.Weight.{refs_of, hunk_weight, weight}
use Rattle.pj_cuts.specs.CutsOf.{all_cut_points}
use Rattle.pj_edges.specs.OwnRows.{row_to, rows_in, rows_from, rows_of}
use Rattle.pj_outline.proofs.StepBounds.{few_each, after_few, at_few, row_few}
use Rattle.pj_states.specs.Given.{hunk_steps, change_steps}
use Rattle.pj_contest.specs.Given.{size_of}

-- ---- cuts: at most two, and one for each reference

few_cuts : (r : Record) (h : Hunk) → length (cut_points r h) ≤ 2 + length (refs_of h)
few_cuts r (File parent name exec) = omega arith
few_cuts r (Dir parent name) = omega arith
few_cuts r (NameOf parent child name exec) = omega arith
few_cuts r (Insert file ups downs bytes) =
    omega (
      arith,
      length-append (flat_map (λ up. point_after (resolve r up)) ups) (flat_map (λ down. point_at (resolve r down)) downs),
      few_each (λ up. point_after (resolve r up)) (λ up. after_few (resolve r up)) ups,
      few_each (λ down. point_at (resolve r down)) (λ down. at_few (resolve r down)) downs,
      length-append ups downs,
    )
few_cuts r (Order file source target) =
    omega (arith, length-append (point_after (resolve r source)) (point_at (resolve r target)), after_few (resolve r source), at_few (resolve r target))
few_cuts r (Delete owner start end by) = omega arith
few_cuts r (Revive owner start end by) = omega arith

-- ---- rows: at most two, and one for each reference

few_two : (n : Name) (l : Label) (a b c d : Place) → length (row_to n l a b ++ row_to n l c d) ≤ 2
few_two n l a b c d = omega (arith, length-append (row_to n l a b) (row_to n l c d), row_few n l a b, row_few n l c d)

few_rows : (r : Record) (first : ℕ) (h : Hunk) → length (rows_in r first h) ≤ 2 + length (refs_of h)
few_rows r first (File parent name exec) =
    omega (arith, few_two r.name label.Folder (resolve r parent) (placed.At (own_point r first)) (placed.At (own_point r first)) (placed.At (own_point r (first + 1))))
few_rows r first (Dir parent name) =
    omega (arith, few_two r.name label.Folder (resolve r parent) (placed.At (own_point r first)) (placed.At (own_point r first)) (placed.At (own_point r (first + 1))))
few_rows r first (NameOf parent child name exec) =
    omega (arith, few_two r.name label.Folder (resolve r parent) (placed.At (own_point r first)) (placed.At (own_point r first)) (resolve r child))
few_rows r first (Insert file ups downs bytes) =
    omega (
      arith,
      length-append ups downs,
      length-append (flat_map (λ up. row_to r.name label.Block (resolve r up) (placed.At (own_point r first))) ups) (flat_map (λ down. row_to r.name label.Order (placed.At (own_point r (first + length bytes - 1))) (resolve r down)) downs),
      few_each (λ up. row_to r.name label.Block (resolve r up) (placed.At (own_point r first))) (λ up. row_few r.name label.Block (resolve r up) (placed.At (own_point r first))) ups,
      few_each (λ down. row_to r.name label.Order (placed.At (own_point r (first + length bytes - 1))) (resolve r down)) (λ down. row_few r.name label.Order (placed.At (own_point r (first + length bytes - 1))) (resolve r down)) downs,
    )
few_rows r first (Order file source target) = omega (arith, row_few r.name label.Order (resolve r source) (resolve r target))
few_rows r first (Delete owner start end by) = omega arith
few_rows r first (Revive owner start end by) = omega arith

-- ---- all hunks

abbrev refs : List Hunk → ℕ
refs hs = sum_by (λ h. length (refs_of h)) hs

few_versions : (h : Hunk) → hunk_steps h ≤ 2 + length (by_of h)
few_versions (File parent name exec) = omega arith
few_versions (Dir parent name) = omega arith
few_versions (NameOf parent child name exec) = omega arith
few_versions (Insert file ups downs bytes) = omega arith
few_versions (Order file source target) = omega arith
few_versions (Delete owner start end by) = omega arith
few_versions (Revive owner start end by) = omega arith

few_steps : (r : Record) (first : ℕ) (hs : List Hunk) →
    length hs + 3 * length (flat_map (cut_points r) hs) + 2 * length (rows_from r first hs) + sum_by hunk_steps hs + 4 * (length hs + refs hs) + 2 * length hs ≤ 22 * sum_by hunk_weight hs
unfolding rows_from
few_steps r first [] = omega arith
few_steps r first (h ∷ hs) =
    omega (
      arith,
      length-append (cut_points r h) (flat_map (cut_points r) hs),
      few_cuts r h,
      length-append (rows_in r first h) (rows_from r (first + position_count h) hs),
      few_rows r first h,
      few_versions h,
      few_steps r (first + position_count h) hs,
      sum_by-cons hunk_steps h hs,
      sum_by-cons (λ g. length (refs_of g)) h hs,
      sum_by-cons hunk_weight h hs,
    )

-- of the outline, the versions, the contests, the needs and the names
pub steps_within : (r : Record) →
    length r.change.hunks + 3 * length (all_cut_points r) + 2 * length (rows_of r) + change_steps r + 4 * size_of r + length r.change.needs + 2 * length r.change.hunks ≤ 22 * weight r
steps_within r = omega (arith, few_steps r 0 r.change.hunks)
