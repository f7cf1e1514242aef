-- The steps that an outline takes for a change, and the laws of outlines.
use Rattle.std.specs.Prelude.{ℕ, ◌+◌, ◌*◌, ◌≤◌, length, List, sum_by}
use Rattle.pj_change.specs.declared.change.Record.{Record}
use Rattle.pj_change.specs.Sets.{HaveSameMembers, HaveDistinctNames}
use Rattle.pj_change.specs.Weight.{hunk_weight}
use Rattle.pj_cuts.specs.CutsOf.{all_cut_points}
use Rattle.pj_edges.specs.OwnRows.{rows_of}
use Rattle.pj_outline.specs.declared.outline.Outline.{Outline}
use Rattle.pj_outline.specs.OutlineOf.{IsOutlineOf}

-- one for each hunk, three for each cut, and two for each row that the change gives by itself
abbrev pub outline_steps : Record → ℕ
outline_steps r = length r.change.hunks + 3 * length (all_cut_points r) + 2 * length (rows_of r)

-- they are at most 7 for each hunk, each reference and each name under `by`
abbrev pub StepsByWeight : Type 0
StepsByWeight = (r : Record) → outline_steps r ≤ 7 * sum_by hunk_weight r.change.hunks

-- the order of a list decides nothing
abbrev pub OutlineOfMembers : Type 0
OutlineOfMembers = (S T : List Record) → HaveSameMembers S T → HaveDistinctNames S → HaveDistinctNames T → (o : Outline) → IsOutlineOf S o → IsOutlineOf T o
