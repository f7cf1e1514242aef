-- What stands at a place of a file: a closed gate, an entry, or neither.
use Rattle.std.specs.Prelude.{◌≡◌, ◌≢◌, ℕ, ◌+◌, ◌^◌, ◌<◌, ◌≤◌, ⊤, List, [], ◌∷◌, length, take, drop}
use Rattle.std.specs.Int.{w64, from_be_bytes}
use Rattle.pj_journal.specs.Stored.{IsClosedAt}
use Rattle.pj_journal.specs.Log.{IsBroken}
use Rattle.pj_journal.specs.declared.head.Head.{Head}
use Rattle.pj_journal.specs.declared.head.Head.TheVariants.{Closed, Entry, Broken}

-- an open gate, a length in its range, and room for so many bytes
pub record HasRoom (file : List ℕ) (place n : ℕ) : Type 0 where
  pub is_open : take 1 (drop place file) ≢ 0 ∷ []
  pub some : 1 ≤ n
  pub most : n ≤ 16777230
  pub size : from_be_bytes w64 (take 8 (drop (place + 1) file)) ≡ n
  pub room : place + 9 + n ≤ length file

-- this head stands at the place of the file: a closed gate, an entry of so many bytes, or neither
abbrev pub IsHead : List ℕ → ℕ → Head → Type 0
IsHead file place Closed = IsClosedAt file place
IsHead file place (Entry n) = HasRoom file place n
IsHead file place Broken = IsBroken file place

-- the same of the first 9 bytes from a place on, or as many as there are, in a file of this length
pub record SaysEntry (front : List ℕ) (place file_len n : ℕ) : Type 0 where
  pub is_open : take 1 front ≢ 0 ∷ []
  pub whole : 9 ≤ length front
  pub some : 1 ≤ n
  pub most : n ≤ 16777230
  pub size : from_be_bytes w64 (take 8 (drop 1 front)) ≡ n
  pub room : place + 9 + n ≤ file_len

-- the bytes from a place on, in a file of this length, say that this head stands there
abbrev pub SaysHead : List ℕ → ℕ → ℕ → Head → Type 0
SaysHead front place file_len Closed = take 1 front ≡ 0 ∷ []
SaysHead front place file_len (Entry n) = SaysEntry front place file_len n
SaysHead front place file_len Broken = (take 1 front ≢ 0 ∷ []) × ((n : ℕ) → SaysEntry front place file_len n → ⊥)

-- an entry ends below 2^63
abbrev pub HasEnd : ℕ → Head → Type 0
HasEnd place Closed = ⊤
HasEnd place (Entry n) = place + 9 + n < 2 ^ 63
HasEnd place Broken = ⊤
