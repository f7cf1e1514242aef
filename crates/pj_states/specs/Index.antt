-- The ranges of a table of versions: one for each hunk.
use Rattle.std.specs.Prelude.{◌≡◌, ◌<◌, IsTrue, List, Some}
use Rattle.pj_pmap.specs.Pairs.{IsRising}
use Rattle.pj_rows.specs.declared.values.Here.{Here}
use Rattle.pj_ranges.specs.declared.range.HunkAt.{HunkAt}
use Rattle.pj_ranges.specs.declared.range.RangeAt.{RangeAt}
use Rattle.pj_ranges.specs.Units.{hunk_cmp, range_of}
use Rattle.pj_ranges.specs.Over.{has_range}
use Rattle.pj_states.specs.declared.deletion.Deletion.{Deletion}
use Rattle.pj_states.specs.Rows.{Rows, said_by}

-- the range of a hunk that says this
abbrev pub range_by : HunkAt → Deletion → RangeAt
range_by k d = range_of d.owner d.start d.end k

-- each hunk has some positions, and the range of each is there, and no other
pub record AreIndexed (rows : Rows) (ranges : List (RangeAt × Here)) : Type 0 where
  pub rising : IsRising hunk_cmp rows
  pub some : (k : HunkAt) (d : Deletion) → said_by k rows ≡ Some d → d.start < d.end
  pub there : (k : HunkAt) (d : Deletion) → said_by k rows ≡ Some d → IsTrue (has_range ranges (range_by k d))
  pub only : (r : RangeAt) → IsTrue (has_range ranges r) → (d : Deletion) × (said_by r.by rows ≡ Some d) × (r ≡ range_by r.by d)
