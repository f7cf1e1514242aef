-- The law of the tables of contests.
use Rattle.std.specs.Prelude.{◌≡◌, List}
use Rattle.pj_change.specs.declared.change.Record.{Record}
use Rattle.pj_change.specs.Sets.{HaveSameMembers, HaveDistinctNames}
use Rattle.pj_ranges.specs.Units.{hunk_cmp}
use Rattle.pj_ranges.specs.declared.range.HunkAt.{HunkAt}
use Rattle.pj_rows.specs.Keys.{number_at}
use Rattle.pj_contest.specs.Contests.{Table, IsContestsOf}

-- the table of a list is that of each list with the same members, each once
abbrev pub OfMembers : Type 0
OfMembers = (S T : List Record) → HaveSameMembers S T → HaveDistinctNames S → HaveDistinctNames T → (t : Table) → IsContestsOf S t → IsContestsOf T t

-- two tables of the same members have the same counts
abbrev pub SameCounts : Type 0
SameCounts =
    (S T : List Record) → HaveSameMembers S T → HaveDistinctNames S → HaveDistinctNames T → (t u : Table) → IsContestsOf S t → IsContestsOf T u →
    (x : HunkAt) → number_at hunk_cmp x t.counts ≡ number_at hunk_cmp x u.counts
