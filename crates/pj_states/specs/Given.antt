-- What a change gives to a table of versions.
use Rattle.std.specs.Prelude.{◌≡◌, ℕ, ◌+◌, ◌*◌, ◌||◌, Bool, false, List, Option, Some, None, cond, length, slice_get, sum_by}
use Rattle.std.specs.Ordering.{is_eq}
use Rattle.pj_name.specs.declared.name.Name.{Name}
use Rattle.pj_name.specs.Name.{same_name}
use Rattle.pj_change.specs.declared.hunk.Hunk.{Hunk}
use Rattle.pj_change.specs.declared.change.Record.{Record}
use Rattle.pj_change.specs.Covers.{is_delete, is_revive, by_of}
use Rattle.pj_change.specs.Lawful.{is_held}
use Rattle.pj_ranges.specs.declared.range.HunkAt.{HunkAt}
use Rattle.pj_ranges.specs.Units.{hunk_cmp}
use Rattle.pj_states.specs.declared.deletion.Deletion.{Deletion}
use Rattle.pj_states.specs.Rows.{Rows, hunk_at, said_by}
use Rattle.pj_states.specs.OfSets.{deletion_of, AreVersionsOf}

-- a hunk that says something of a range
abbrev pub is_deletion : Hunk → Bool
is_deletion h = is_delete h || is_revive h

-- the steps that a hunk takes: two where it says something of a range, and one for each name under its `by`
abbrev pub hunk_steps : Hunk → ℕ
hunk_steps h = 2 * cond (is_deletion h) 1 0 + length (by_of h)

-- those of a change
abbrev pub change_steps : Record → ℕ
change_steps r = sum_by hunk_steps r.change.hunks

-- what the hunk of r says, if there is one
abbrev pub deletion_in : Record → Option Hunk → Option Deletion
deletion_in r None = None
deletion_in r (Some h) = deletion_of r h

-- what r says by the hunk at this place
abbrev pub given_by : Record → HunkAt → Option Deletion
given_by r k = cond (same_name r.name k.change) (deletion_in r (slice_get r.change.hunks k.hunk)) None

-- by the hunks of r the table says what r says, or nothing
abbrev pub SaysNoOther : Record → Rows → Type 0
SaysNoOther r rows = (number : ℕ) (d : Deletion) → said_by (hunk_at r.name number) rows ≡ Some d → deletion_in r (slice_get r.change.hunks number) ≡ Some d

-- what it says there with this hunk alone, by its number
abbrev pub given_at : Record → ℕ → Hunk → HunkAt → Option Deletion
given_at r number h k = cond (is_eq (hunk_cmp k (hunk_at r.name number))) (deletion_of r h) None

-- ---- the law of the module `laws`

-- the table of a set says nothing by a hunk of a change that is not in it
abbrev pub NothingSaidWhereNew : Type 0
NothingSaidWhereNew = (S : List Record) (rows : Rows) → AreVersionsOf S rows → (n : Name) → is_held S n ≡ false → (number : ℕ) → said_by (hunk_at n number) rows ≡ None
