-- Positions that a change deletes or revives.
use Rattle.std.specs.Prelude.{ℕ, ◌<◌, ◌≤◌, IsTrue}
use Rattle.pj_name.specs.declared.name.Name.{Name}
use Rattle.pj_change.specs.declared.change.Record.{Record}
use Rattle.pj_change.specs.declared.hunk.Hunk.{Hunk}
use Rattle.pj_change.specs.Covers.{covers, touches}

-- the hunk of r deletes or revives each position of the owner from start up to and without end
abbrev pub CoversEach : Record → Hunk → Name → ℕ → ℕ → Type 0
CoversEach r h owner start end = (offset : ℕ) → start ≤ offset → offset < end → IsTrue (covers r h (record { change = owner; offset = offset }))

-- the change of r deletes or revives each position of the owner from start up to and without end
abbrev pub TouchesEach : Record → Name → ℕ → ℕ → Type 0
TouchesEach r owner start end = (offset : ℕ) → start ≤ offset → offset < end → IsTrue (touches r (record { change = owner; offset = offset }))
