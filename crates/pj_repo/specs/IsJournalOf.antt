-- What the journal of a finished repository is.
use Rattle.std.specs.Prelude.{◌≡◌, ℕ, List, [], map, All, Contains}
use mathlib.Core.List.{IsPrefix}
use Rattle.pj_machine.specs.declared.journal.Entry.{Entry}
use Rattle.pj_machine.specs.Call.{PassView, entries_of, own}

-- the journal begins with what the pass had seen, and has of its number just its own entries
pub record HasOwn (journal : List Entry) (p : PassView) : Type 0 where
  pub begins : IsPrefix p.journal journal
  pub own : entries_of p.number journal ≡ own p

-- the journal is that of these passes: it has what each of them saw and entered, and no entry of any other number
pub record IsJournalOf (journal : List Entry) (passes : List PassView) : Type 0 where
  pub each : All (HasOwn journal) passes
  pub others : (n : ℕ) → ¬ Contains (map (λ p. p.number) passes) n → entries_of n journal ≡ []
