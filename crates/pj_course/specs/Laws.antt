-- That each change of a large run has its context. Each statement is the contract of a function in the module `laws`.
use Rattle.std.specs.Prelude.{◌≡◌, ℕ, ◌+◌, ◌%◌, ◌⊎◌, false, IsTrue, List, [], Contains, flat_map}
use Rattle.std.specs.List.{list_all}
use Rattle.pj_name.specs.Name.{name_of}
use Rattle.pj_change.specs.declared.change.Record.{Record}
use Rattle.pj_change.specs.Lawful.{is_held, Follows}
use Rattle.pj_change.specs.Parts.{parts_of}
use Rattle.pj_change.specs.Text.{Parts, text_of}
use Rattle.pj_gen.specs.Changes.{eight, file_hunks, load_change, last_insertion, change_after}
use Rattle.pj_gen.specs.Draws.{draws_from, number_after}

-- change 0 of a large run
abbrev pub zero_parts : Parts
zero_parts = load_change 0 [] (flat_map file_hunks eight)

-- change n + 1
abbrev pub later_parts : ℕ → ℕ → Parts
later_parts number n = change_after (last_insertion number (n % 8) n) (n + 1) (draws_from (number_after number n))

-- a change of the large run with this number
abbrev pub IsOfRun : ℕ → Parts → Type 0
IsOfRun number p = (p ≡ zero_parts) ⊎ ((n : ℕ) × (p ≡ later_parts number n))

-- in the list the name of a change of the run is that of no other change
abbrev pub HasRunNames : ℕ → List Record → Type 0
HasRunNames number list = (r : Record) → Contains list r → (p : Parts) → IsOfRun number p → r.name ≡ name_of (text_of p) → parts_of r.change ≡ p

-- change 0 may follow any list without it
abbrev pub ZeroFollows : Type 0
ZeroFollows = (list : List Record) (c : Record) → parts_of c.change ≡ zero_parts → is_held list c.name ≡ false → Follows list c

-- and each other one a list that holds its needs and not itself
abbrev pub LaterFollows : Type 0
LaterFollows =
    (number n : ℕ) (list : List Record) (c : Record) → HasRunNames number list → parts_of c.change ≡ later_parts number n
    → is_held list c.name ≡ false → IsTrue (list_all (is_held list) c.change.needs) → Follows list c
