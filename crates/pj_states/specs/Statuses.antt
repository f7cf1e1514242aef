-- The kinds of versions of a point that survive in a table, and its status.
use Rattle.std.specs.Prelude.{Bool, false, not, ◌&&◌, ◌||◌, if◌then◌else◌, Option, Some, None}
use Rattle.std.specs.List.{list_any}
use Rattle.pj_change.specs.declared.point.Point.{Point}
use Rattle.pj_change.specs.declared.graph.Status.{Status}
use Rattle.pj_change.specs.declared.graph.Status.TheVariants.{Alive, Dead, Zombie}
use Rattle.pj_ranges.specs.declared.range.HunkAt.{HunkAt}
use Rattle.pj_states.specs.declared.deletion.Deletion.{Deletion}
use Rattle.pj_states.specs.Rows.{Rows, said_by, covers_point}
use Rattle.pj_states.specs.Survivals.{survives_in}

-- ---- tests of a hunk and what it says

-- the hunk deletes
abbrev pub is_deleting : HunkAt → Deletion → Bool
is_deleting k d = not d.alive

-- the hunk revives
abbrev pub is_reviving : HunkAt → Deletion → Bool
is_reviving k d = d.alive

-- the hunk deletes, and is contested
abbrev pub is_contested_one : (HunkAt → Bool) → HunkAt → Deletion → Bool
is_contested_one contested k d = not d.alive && contested k

-- ---- what survives

-- the version of a hunk that passes survives
abbrev pub any_survives : (HunkAt → Deletion → Bool) → Rows → Point → Bool
any_survives test rows p = list_any (λ e. covers_point e.1 p && (survives_in rows e.0.change p && test e.0 e.1)) rows

-- the hunk is there and passes
abbrev pub passes_said : (HunkAt → Deletion → Bool) → HunkAt → Option Deletion → Bool
passes_said test k None = false
passes_said test k (Some d) = test k d

-- the hunk is there and passes, and the version of its change survives
abbrev pub survives_at : (HunkAt → Deletion → Bool) → Rows → Point → HunkAt → Bool
survives_at test rows p k = survives_in rows k.change p && passes_said test k (said_by k rows)

-- ---- the status

-- by whether a deleted version survives, one that is alive, and one of a contested hunk
abbrev pub status_by : Bool → Bool → Bool → Status
status_by deleted alive contested = if not deleted then Alive else (if alive || contested then Zombie else Dead)

-- the status of the point in the table
abbrev pub status_in : (HunkAt → Bool) → Rows → Point → Status
status_in contested rows p =
    status_by (any_survives is_deleting rows p) (survives_in rows p.change p || any_survives is_reviving rows p) (any_survives (is_contested_one contested) rows p)
