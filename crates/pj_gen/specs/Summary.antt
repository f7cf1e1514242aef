-- The summary of a large run: how many changes each channel has, and the digest of its print.
use Rattle.std.specs.Prelude.{◌≡◌, ℕ, zero, suc, ◌-◌, ◌%◌, ◌<◌, List, [], ◌∷◌, ◌++◌, length, map, Contains, codes, decimal, nat_eq, Some, None, if◌then◌else◌}
use Rattle.std.specs.List.{flat_map}
use Rattle.pj_name.specs.Name.{name_of, hex}
use Rattle.pj_change.specs.declared.change.Record.{Record}
use Rattle.pj_change.specs.Text.{line}
use Rattle.pj_change.specs.Children.{point_text}
use Rattle.pj_change.specs.FirstWide.{IsFirstWide}
use Rattle.pj_change.specs.Print.{IsPrint}
use Rattle.pj_change.specs.Sets.{HaveDistinctNames}
use Rattle.pj_gen.specs.declared.telling.Found.{Found}
use Rattle.pj_gen.specs.declared.telling.Found.TheVariants.{Digest, Wide}
use Rattle.pj_gen.specs.Changes.{eight, line_name, zero_text, change_text}
use Rattle.pj_gen.specs.Requests.{main}

-- ---- the sets

-- the texts of change 0 and of those of the changes 1 to n that are of a line
unfoldable pub line_texts : ℕ → ℕ → ℕ → List (List ℕ)
line_texts number l zero = zero_text ∷ []
line_texts number l (suc n) = line_texts number l n ++ (if nat_eq (n % 8) l then change_text number n ∷ [] else [])

-- the texts of the changes 0 to n
unfoldable pub all_texts : ℕ → ℕ → List (List ℕ)
all_texts number zero = zero_text ∷ []
all_texts number (suc n) = all_texts number n ++ change_text number n ∷ []

-- ---- what a print gives

-- the most live vertices of a printed file
abbrev pub live : ℕ
live = 16384

-- the digest of the print of S, or its first wide file
abbrev pub IsFound : List Record → Found → Type 0
IsFound S (Digest name) = IsFirstWide S live None × (bytes : List ℕ) × IsPrint S bytes × (name ≡ name_of bytes)
IsFound S (Wide inode) = IsFirstWide S live (Some inode)

-- S is the set of the changes with these texts: each once, in any order
pub record IsSetOf (texts : List (List ℕ)) (S : List Record) : Type 0 where
  pub once : HaveDistinctNames S
  pub each : (text : List ℕ) → Contains texts text → Contains (map (λ r. r.text) S) text
  pub only : (text : List ℕ) → Contains (map (λ r. r.text) S) text → Contains texts text

-- what the print of that set gives
pub record IsFoundOf (texts : List (List ℕ)) (found : Found) : Type 0 where
  pub S : List Record
  pub is_set : IsSetOf texts S
  pub found_is : IsFound S found

-- ---- the lines

-- the digest, or `wide` and the inode of the first wide file
abbrev pub found_words : Found → List (List ℕ)
found_words (Digest name) = hex name.bytes ∷ []
found_words (Wide inode) = codes "wide" ∷ point_text inode ∷ []

-- the line of a channel: its name, how many changes it has, and what its print gives
unfoldable pub channel_line : List ℕ → ℕ → Found → List ℕ
channel_line name count found = line (codes "channel" ∷ name ∷ decimal count ∷ found_words found)

-- the first two lines
unfoldable pub head : ℕ → ℕ → List ℕ
head changes sessions = line (codes "sessions" ∷ decimal sessions ∷ []) ++ line (codes "changes" ∷ decimal changes ∷ [])

-- the line of the channel of a line of changes
unfoldable pub line_row : ℕ → ℕ → ℕ → Found → List ℕ
line_row number changes l found = channel_line (line_name l) (length (line_texts number l (changes - 1))) found

-- the first two lines, and those of the channels: the lines of changes, and `main`
pub record IsSummary (number changes sessions : ℕ) (bytes : List ℕ) : Type 0 where
  pub lines : ℕ → Found
  pub all : Found
  pub lines_are : (l : ℕ) → l < 8 → IsFoundOf (line_texts number l (changes - 1)) (lines l)
  pub all_is : IsFoundOf (all_texts number (changes - 1)) all
  pub bytes_are : bytes ≡ head changes sessions ++ flat_map (λ l. line_row number changes l (lines l)) eight
      ++ channel_line main (length (all_texts number (changes - 1))) all
