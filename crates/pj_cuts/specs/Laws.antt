-- The laws of the table of a set. Each is the contract of a function in the module `laws`.
use Rattle.std.specs.Prelude.{◌≡◌, ℕ, ◌≤◌, false, List, Contains}
use Rattle.pj_name.specs.declared.name.Name.{Name}
use Rattle.pj_change.specs.declared.point.Point.{Point}
use Rattle.pj_change.specs.declared.change.Record.{Record}
use Rattle.pj_change.specs.Positions.{own_point}
use Rattle.pj_change.specs.Lawful.{is_held, Follows}
use Rattle.pj_change.specs.Sets.{HaveDistinctNames}
use Rattle.pj_change.specs.Vertices.{is_cut}
use Rattle.pj_change.specs.CutCounts.{cuts_by}
use Rattle.pj_cuts.specs.Counted.{Counted, at_offset, count_at, length_at, is_counted, InNoBlock}
use Rattle.pj_cuts.specs.CutsOf.{block_length, AllFitAfter, AreCutsOf}

-- in the table of a set a cut is counted exactly where the set cuts
abbrev pub CountedWhereCut : Type 0
CountedWhereCut = (S : List Record) (c : Counted) → AreCutsOf S c → (n : Name) (at : ℕ) → is_counted c n at ≡ is_cut S (at_offset n at)

-- no position of a change that is not in the set lies in a block
abbrev pub FreeWhereNew : Type 0
FreeWhereNew = (S : List Record) (c : Counted) → AreCutsOf S c → (n : Name) → is_held S n ≡ false → (at : ℕ) → InNoBlock c n at

-- the blocks of a change of the set are there
abbrev pub BlocksWhereHeld : Type 0
BlocksWhereHeld =
    (S : List Record) (c : Counted) → AreCutsOf S c → HaveDistinctNames S → (r : Record) → Contains S r →
    (at : ℕ) → length_at c (own_point r at) ≡ block_length r at

-- and its cuts
abbrev pub CutsWhereHeld : Type 0
CutsWhereHeld = (S : List Record) (c : Counted) → AreCutsOf S c → (r : Record) → Contains S r → (p : Point) → cuts_by r p ≤ count_at c p

-- a position stands after each up and each source of a change that may follow a list
abbrev pub FitsWhereContext : Type 0
FitsWhereContext = (list : List Record) (r : Record) → Follows list r → AllFitAfter r
