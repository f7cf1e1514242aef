-- A change has no more cuts and no more rows than references, but for the two ends of a range and the two rows of a name.
use Rattle.std.proofs.Common.{ℕ, ◌+◌, ◌-◌, ◌*◌, ◌≤◌, List, [], ◌∷◌, ◌++◌, length, length-append, arith, sum_by}
use Rattle.std.specs.Prelude.{flat_map}
use Rattle.std.proofs.lemmas.List.Sums.{sum_by-cons}
use Rattle.pj_name.specs.declared.name.Name.{Name}
use Rattle.pj_change.specs.declared.point.Point.{Point}
use Rattle.pj_change.specs.declared.point.Place.{Place}
use Rattle.pj_change.specs.declared.point.Place.TheVariants as placed
use Rattle.pj_change.specs.declared.point.Ref.{Ref}
use Rattle.pj_change.specs.declared.hunk.Hunk.{Hunk}
use Rattle.pj_change.specs.declared.hunk.Hunk.TheVariants.{File, Dir, NameOf, Insert, Order, Delete, Revive}
use Rattle.pj_change.specs.declared.graph.Label.{Label}
use Rattle.pj_change.specs.declared.graph.Label.TheVariants as label
use Rattle.pj_change.specs.declared.row.EdgeRow.{EdgeRow}
use Rattle.pj_change.specs.declared.change.Record.{Record}
use Rattle.pj_change.specs.Rules.{position_count}
use Rattle.pj_change.specs.Positions.{resolve, own_point}
use Rattle.pj_change.specs.CutCounts.{point_after, point_at, cut_points}
use Rattle.pj_change.specs.Weight.{hunk_weight}
use Rattle.pj_edges.specs.OwnRows.{row_to, name_rows, rows_in, rows_from}
use Rattle.pj_outline.specs.Steps.{StepsByWeight}

-- a list of lists with at most one element each
pub few_each : {X Y : Type 0} (f : X → List Y) → ((x : X) → length (f x) ≤ 1) → (xs : List X) → length (flat_map f xs) ≤ length xs
few_each f few [] = omega arith
few_each f few (x ∷ xs) = omega (arith, few x, few_each f few xs, length-append (f x) (flat_map f xs))

pub after_few : (at : Place) → length (point_after at) ≤ 1
after_few placed.Root = omega arith
after_few (placed.At p) = omega arith

pub at_few : (at : Place) → length (point_at at) ≤ 1
at_few placed.Root = omega arith
at_few (placed.At p) = omega arith

pub row_few : (introducer : Name) (l : Label) (source target : Place) → length (row_to introducer l source target) ≤ 1
row_few introducer l source placed.Root = omega arith
row_few introducer l source (placed.At p) = omega arith

two_few : {X : Type 0} (xs ys : List X) → length xs ≤ 1 → length ys ≤ 1 → length (xs ++ ys) ≤ 2
two_few xs ys a b = omega (arith, a, b, length-append xs ys)

module _ (r : Record) where
  name_few : (first : ℕ) (parent child : Place) → length (name_rows r first parent child) ≤ 2
  name_few first parent child =
      two_few (row_to r.name label.Folder parent (placed.At (own_point r first))) (row_to r.name label.Folder (placed.At (own_point r first)) child)
      (row_few r.name label.Folder parent (placed.At (own_point r first))) (row_few r.name label.Folder (placed.At (own_point r first)) child)

  -- the steps for a hunk
  hunk_few : (first : ℕ) (h : Hunk) → 1 + 3 * length (cut_points r h) + 2 * length (rows_in r first h) ≤ 7 * hunk_weight h
  hunk_few first (File parent name exec) = omega (arith, name_few first (resolve r parent) (placed.At (own_point r (first + 1))))
  hunk_few first (Dir parent name) = omega (arith, name_few first (resolve r parent) (placed.At (own_point r (first + 1))))
  hunk_few first (NameOf parent child name exec) = omega (arith, name_few first (resolve r parent) (resolve r child))
  hunk_few first (Insert file ups downs bytes) =
      let up_row : Ref → List EdgeRow = λ up. row_to r.name label.Block (resolve r up) (placed.At (own_point r first)) in
      let down_row : Ref → List EdgeRow = λ down. row_to r.name label.Order (placed.At (own_point r (first + length bytes - 1))) (resolve r down) in
      let after : Ref → List Point = λ up. point_after (resolve r up) in
      let at : Ref → List Point = λ down. point_at (resolve r down) in
      omega (
        arith,
        few_each up_row (λ up. row_few r.name label.Block (resolve r up) (placed.At (own_point r first))) ups,
        few_each down_row (λ down. row_few r.name label.Order (placed.At (own_point r (first + length bytes - 1))) (resolve r down)) downs,
        few_each after (λ up. after_few (resolve r up)) ups,
        few_each at (λ down. at_few (resolve r down)) downs,
        length-append (flat_map up_row ups) (flat_map down_row downs),
        length-append (flat_map after ups) (flat_map at downs),
        length-append ups downs,
      )
  hunk_few first (Order file source target) =
      let cuts = two_few (point_after (resolve r source)) (point_at (resolve r target)) (after_few (resolve r source)) (at_few (resolve r target)) in
      let row = row_few r.name label.Order (resolve r source) (resolve r target) in
      omega (arith, cuts, row)
  hunk_few first (Delete owner start end by) = omega arith
  hunk_few first (Revive owner start end by) = omega arith

  hunks_few : (first : ℕ) (hs : List Hunk) → length hs + 3 * length (flat_map (cut_points r) hs) + 2 * length (rows_from r first hs) ≤ 7 * sum_by hunk_weight hs
  unfolding rows_from
  hunks_few first [] = omega arith
  hunks_few first (h ∷ hs) = omega (
    arith,
    hunk_few first h,
    hunks_few (first + position_count h) hs,
    length-append (cut_points r h) (flat_map (cut_points r) hs),
    length-append (rows_in r first h) (rows_from r (first + position_count h) hs),
    sum_by-cons hunk_weight h hs,
  )

pub steps_by_weight : StepsByWeight
steps_by_weight r = omega (arith, hunks_few r 0 r.change.hunks)
