-- The journal of a repository whose passes 1 and 2 alone were asked.
use Rattle.std.specs.Prelude.{◌≡◌, ◌≢◌, ℕ, List, []}
use mathlib.Core.List.{IsPrefix}
use Rattle.pj_machine.specs.declared.journal.Entry.{Entry}
use Rattle.pj_machine.specs.Call.{PassView, entries_of, own}

-- it begins with what pass 1 saw, and has its entries alone
pub record IsOfOne (journal : List Entry) (first : PassView) : Type 0 where
  pub begins : IsPrefix first.journal journal
  pub own_is : entries_of first.number journal ≡ own first
  pub others : (n : ℕ) → n ≢ 1 → entries_of n journal ≡ []

-- it begins with what passes 1 and 2 saw, and has their entries alone
pub record IsOfTwo (journal : List Entry) (first second : PassView) : Type 0 where
  pub begins : IsPrefix first.journal journal
  pub own_is : entries_of first.number journal ≡ own first
  pub begins_second : IsPrefix second.journal journal
  pub own_second : entries_of second.number journal ≡ own second
  pub others : (n : ℕ) → n ≢ 1 → n ≢ 2 → entries_of n journal ≡ []
