-- The table of versions of a set S of changes.
use Rattle.std.specs.Prelude.{◌≡◌, ℕ, true, false, Bool, ◌||◌, List, Contains, Option, Some, None, map, slice_get, ◌↔◌}
use Rattle.pj_change.specs.declared.point.Point.{Point}
use Rattle.pj_change.specs.declared.hunk.Hunk.{Hunk}
use Rattle.pj_change.specs.declared.hunk.Hunk.TheVariants.{Delete, Revive}
use Rattle.pj_change.specs.declared.change.Record.{Record}
use Rattle.pj_change.specs.Positions.{numbered}
use Rattle.pj_change.specs.Versions.{deletion_survives, life_survives}
use Rattle.pj_change.specs.Contested.{is_hunk_contested}
use Rattle.pj_change.specs.Status.{is_contested}
use Rattle.pj_ranges.specs.declared.range.HunkAt.{HunkAt}
use Rattle.pj_states.specs.declared.deletion.Deletion.{Deletion}
use Rattle.pj_states.specs.declared.survivors.Survivors.{Survivors}
use Rattle.pj_states.specs.Rows.{Rows, hunk_at, said_by}

-- what a hunk of r says, where it deletes or revives
abbrev pub deletion_of : Record → Hunk → Option Deletion
deletion_of r (Delete owner start end by) = Some (record { owner = numbered r owner; start = start; end = end; by = map (numbered r) by; alive = false })
deletion_of r (Revive owner start end by) = Some (record { owner = numbered r owner; start = start; end = end; by = map (numbered r) by; alive = true })
deletion_of r h = None

-- a change of S says this by the hunk
pub record IsSaid (S : List Record) (k : HunkAt) (d : Deletion) : Type 0 where
  pub change : Record
  pub member : Contains S change
  pub name : change.name ≡ k.change
  pub hunk : Hunk
  pub there : slice_get change.change.hunks k.hunk ≡ Some hunk
  pub is : deletion_of change hunk ≡ Some d

-- the table has what the changes of S say, and no more
abbrev pub AreVersionsOf : List Record → Rows → Type 0
AreVersionsOf S rows = (k : HunkAt) (d : Deletion) → (said_by k rows ≡ Some d) ↔ IsSaid S k d

-- these are the contested hunks of S
abbrev pub AreContestedOf : List Record → (HunkAt → Bool) → Type 0
AreContestedOf S contested =
    (d : Record) → Contains S d → (number : ℕ) (h : Hunk) → slice_get d.change.hunks number ≡ Some h → contested (hunk_at d.name number) ≡ is_hunk_contested S d h

-- these kinds of versions of the point survive in S
pub record SurviveIn (S : List Record) (p : Point) (found : Survivors) : Type 0 where
  pub deleted : found.deleted ≡ deletion_survives S p
  pub alive : (found.owner || found.revived) ≡ life_survives S p
  pub contested : found.contested ≡ is_contested S p
