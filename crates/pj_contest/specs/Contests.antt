-- The table of the contests of a set S: what is counted, and the indexes by which contests are found.
use Rattle.std.specs.Prelude.{◌≡◌, ◌↔◌, ℕ, ◌<◌, Bool, false, true, ◌&&◌, List, ◌∷◌, Option, Some, None, Contains, length, nat_lt, slice_get, count_by}
use Rattle.std.specs.List.{list_any}
use Rattle.std.specs.List.Sorted.{IsStrictlySortedBy}
use Rattle.std.specs.declared.cmp.Ordering.{Ordering}
use Rattle.pj_name.specs.declared.name.Name.{Name}
use Rattle.pj_name.specs.Name.{same_name}
use Rattle.pj_change.specs.declared.point.Point.{Point}
use Rattle.pj_change.specs.declared.hunk.Hunk.{Hunk}
use Rattle.pj_change.specs.declared.change.Record.{Record}
use Rattle.pj_change.specs.ContestCounts.{is_contested_by, contests_of}
use Rattle.pj_ranges.specs.declared.range.HunkAt.{HunkAt}
use Rattle.pj_ranges.specs.declared.range.RangeAt.{RangeAt}
use Rattle.pj_ranges.specs.Units.{hunk_cmp, range_cmp}
use Rattle.pj_rows.specs.declared.values.Count.{Count}
use Rattle.pj_rows.specs.declared.values.Here.{Here}
use Rattle.pj_rows.specs.Keys.{has, is_among, number_at}
use Rattle.pj_contest.specs.declared.marks.UpMark.{UpMark}
use Rattle.pj_contest.specs.declared.marks.BaseMark.{BaseMark}
use Rattle.pj_contest.specs.declared.marks.ChildMark.{ChildMark}
use Rattle.pj_contest.specs.Marks.{up_cmp, base_cmp, child_cmp}
use Rattle.pj_contest.specs.Given.{up_rows, base_rows, child_rows, deleted_ranges}

-- ---- hunks by their places

-- i contests the hunk of d, if there is one
abbrev pub is_opposed : List Record → Record → Option Hunk → Record → Bool
is_opposed S d None i = false
is_opposed S d (Some h) i = is_contested_by S d h i

-- a change of S has a hunk at this place, which i contests
abbrev pub is_hit : List Record → HunkAt → Record → Bool
is_hit S x i = list_any (λ d. same_name d.name x.change && is_opposed S d (slice_get d.change.hunks x.hunk) i) S

-- these are the hunks of S that i contests
abbrev pub AreHits : List Record → Record → List HunkAt → Type 0
AreHits S i hunks = (x : HunkAt) → Contains hunks x ↔ (is_hit S x i ≡ true)

-- these are the hunks of S that i contests, each once, in order
pub record AreHitsInOrder (S : List Record) (i : Record) (hunks : List HunkAt) : Type 0 where
  pub all : AreHits S i hunks
  pub sorted : IsStrictlySortedBy hunk_cmp hunks

-- how many changes of S contest the hunk at this place
abbrev pub count_of : List Record → HunkAt → ℕ
count_of S x = count_by (is_hit S x) S

-- how many of S contest the hunk of r with this number
abbrev pub own_count : List Record → Record → ℕ → ℕ
own_count S r number = count_by (is_opposed S r (slice_get r.change.hunks number)) S

-- each hunk of a change of S has its number of contests, and nothing else has one
pub record AreCountsOf (S : List Record) (counts : List (HunkAt × Count)) : Type 0 where
  pub there : (d : Record) → Contains S d → (number : ℕ) (h : Hunk) → slice_get d.change.hunks number ≡ Some h → number_at hunk_cmp (record { change = d.name; hunk = number }) counts ≡ contests_of S d h
  pub only : (x : HunkAt) → 0 < number_at hunk_cmp x counts → (d : Record) × Contains S d × (d.name ≡ x.change) × ((h : Hunk) × (slice_get d.change.hunks x.hunk ≡ Some h))

-- ---- tables

-- the rows of the changes of S, and no other
abbrev pub IsIndexOf : {K : Type 0} → (K → K → Ordering) → (Record → List K) → List Record → List (K × Here) → Type 0
IsIndexOf {K} cmp rows S es = (q : K) → has cmp q es ≡ list_any (λ r. is_among cmp q (rows r)) S

-- what the indexes show
pub record Rows : Type 0 where
  pub ups : List (UpMark × Here)
  pub bases : List (BaseMark × Here)
  pub children : List (ChildMark × Here)
  pub ranges : List (RangeAt × Here)

-- the indexes are those of S
pub record AreRowsOf (S : List Record) (t : Rows) : Type 0 where
  pub ups : IsIndexOf up_cmp up_rows S t.ups
  pub bases : IsIndexOf base_cmp base_rows S t.bases
  pub children : IsIndexOf child_cmp child_rows S t.children
  pub ranges : IsIndexOf range_cmp deleted_ranges S t.ranges

-- the change knows others beside its needs
abbrev pub knows_more : Record → Bool
knows_more r = nat_lt 0 (length r.change.knows)

-- what a table shows
pub record Table : Type 0 where
  pub counts : List (HunkAt × Count)
  pub rows : Rows
  -- how many changes know others beside their needs
  pub knowing : ℕ

-- the table of S
pub record IsContestsOf (S : List Record) (t : Table) : Type 0 where
  pub counts : (x : HunkAt) → number_at hunk_cmp x t.counts ≡ count_of S x
  pub rows : AreRowsOf S t.rows
  pub knowing : t.knowing ≡ count_by knows_more S

-- no change of S has r under its needs, nor has r itself
abbrev pub IsFree : List Record → Record → Type 0
IsFree S r = (d : Record) → Contains (r ∷ S) d → Contains d.change.needs r.name → ⊥
