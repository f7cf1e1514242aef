-- What stands in the line of a request.
use Rattle.std.specs.Prelude.{◌≡◌, ℕ, List, ◌++◌}
use Rattle.std.specs.List.{AllPass}
use Rattle.pj_scan.specs.Scan.{is_word_byte, Stops}

-- the bytes before the first space or newline, and those from it on
pub record IsFirstWord (bytes word rest : List ℕ) : Type 0 where
  pub stands : bytes ≡ word ++ rest
  pub inside : AllPass is_word_byte word
  pub ends : Stops is_word_byte rest
