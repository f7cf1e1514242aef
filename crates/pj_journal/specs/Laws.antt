-- What holds of every file.
use Rattle.std.specs.Prelude.{◌≡◌, ◌⊎◌, ℕ, List, [], ◌∷◌, ◌++◌}
use Rattle.pj_journal.specs.Format.{IsStorable}
use Rattle.pj_journal.specs.Stored.{Reads, Stores, end_of}
use Rattle.pj_journal.specs.Appended.{opened, appended, LeftByAppend}

-- a file stores one list at most
abbrev pub StoresOneList : Type 0
StoresOneList = (file : List ℕ) (strings others : List (List ℕ)) → Stores file strings → Stores file others → strings ≡ others

-- The list of what a crash left while a string was appended: the one of before, with that string or without. What is
-- appended next stands behind it, and nothing else does.
pub record GoesOnWith (strings : List (List ℕ)) (string next c : List ℕ) : Type 0 where
  pub list : List (List ℕ)
  pub either : (list ≡ strings) ⊎ (list ≡ strings ++ string ∷ [])
  pub stored : Stores c list
  pub then : Stores (appended (opened c) (end_of 8 list) next) (list ++ next ∷ [])

-- A torn tail never comes back. A crash leaves a file in the middle of an append; it is opened again, and another string is
-- appended behind its list: then it stores that list and the string.
abbrev pub TornTailNeverReturns : Type 0
TornTailNeverReturns =
    (file : List ℕ) (strings : List (List ℕ)) (string next c : List ℕ)
    → Reads file strings → IsStorable string → IsStorable next
    → LeftByAppend file (end_of 8 strings) string c
    → GoesOnWith strings string next c
