-- Bytes that are read from the front, and what stands there.
use Rattle.std.specs.Prelude.{◌≡◌, ◌≢◌, ℕ, ◌+◌, ◌<◌, ◌^◌, Bool, false, not, List, [], ◌∷◌, ◌++◌, length, drop, decimal}
use Rattle.std.specs.Char.{is_ascii_digit}
use Rattle.std.specs.List.{All, AllPass}
use Rattle.memchr.specs.Find.{is_byte2}

-- all the bytes, and how many of them are passed over
pub record Scanned : Type 0 where
  pub bytes : List ℕ
  pub place : ℕ

-- the bytes that are left
abbrev pub rest : Scanned → List ℕ
rest s = drop s.place s.bytes

-- the same with so many more bytes passed over
abbrev pub advance : Scanned → ℕ → Scanned
advance s count = record { bytes = s.bytes; place = s.place + count }

-- ---- what stands at the front of bytes, and what is left behind it

-- the byte that ends a line
abbrev pub newline : ℕ
newline = 10

-- the byte between words
abbrev pub space : ℕ
space = 32

-- the byte is not among these
abbrev pub Lacks : ℕ → List ℕ → Type 0
Lacks byte bytes = All (λ b. b ≢ byte) bytes

-- there is no byte, or the first fails the test
abbrev pub Stops : (ℕ → Bool) → List ℕ → Type 0
Stops test [] = Unit {0}
Stops test (b ∷ bytes) = test b ≡ false

-- neither a space nor a newline
abbrev pub is_word_byte : ℕ → Bool
is_word_byte b = not (is_byte2 space newline b)

-- the bytes before the first newline, which is passed over
pub record IsLine (bytes line left : List ℕ) : Type 0 where
  pub stands : bytes ≡ line ++ newline ∷ left
  pub whole : Lacks newline line

-- one byte or more before the next space, newline or the end, which is not passed over
pub record IsWord (bytes word left : List ℕ) : Type 0 where
  pub stands : bytes ≡ word ++ left
  pub some : 0 < length word
  pub inside : AllPass is_word_byte word
  pub ends : Stops is_word_byte left

-- a number below 2 ^ 32 in decimal digits, without leading zeros, and no digit behind them
pub record IsNumber (bytes : List ℕ) (n : ℕ) (left : List ℕ) : Type 0 where
  pub stands : bytes ≡ decimal n ++ left
  pub small : n < 2 ^ 32
  pub ends : Stops is_ascii_digit left

-- so many bytes
pub record IsPiece (count : ℕ) (bytes piece left : List ℕ) : Type 0 where
  pub stands : bytes ≡ piece ++ left
  pub whole : length piece ≡ count
