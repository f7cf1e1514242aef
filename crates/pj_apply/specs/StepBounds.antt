-- How many steps the calls that change a list of changes take at most, by the size of the change and the contests that it brings.
-- A step is one change of a persistent map. Look-ups are no steps, nor is the walk that makes the rows across dead text.
use Rattle.std.specs.Prelude.{ℕ, ◌+◌, ◌*◌, not, List, [], ◌∷◌, ◌++◌, filter, Option, Some, None}
use Rattle.pj_name.specs.declared.name.Name.{Name}
use Rattle.pj_change.specs.declared.change.Record.{Record}
use Rattle.pj_change.specs.Lawful.{is_held, record_of}
use Rattle.pj_change.specs.Unrecord.{without}
use Rattle.pj_change.specs.Weight.{weight}
use Rattle.pj_change.specs.ContestCounts.{pairs_with}

-- to add r to these changes, or to take it away from them and r
abbrev pub change_bound : List Record → Record → ℕ
change_bound others r = 64 * (weight r + pairs_with others r + 1)

-- to add these to a list, one after the other
abbrev pub append_bound : List Record → List Record → ℕ
append_bound list [] = 0
append_bound list (r ∷ more) = change_bound list r + append_bound (list ++ r ∷ []) more

-- to pull what a list lacks of the other
abbrev pub pull_bound : List Record → List Record → ℕ
pull_bound list other = append_bound list (filter (λ r. not (is_held list r.name)) other)

-- to take away this one, if it is there, from the others
abbrev pub taken_bound : List Record → Option Record → ℕ
taken_bound others None = 0
taken_bound others (Some r) = change_bound others r

-- to take away the change of this name
abbrev pub unrecord_bound : List Record → Name → ℕ
unrecord_bound list name = taken_bound (without list name) (record_of list name)
