-- The print of a set S: the entries of its walk, each with its text.
use Rattle.std.specs.Prelude.{◌≡◌, ℕ, List, [], ◌∷◌, ◌++◌, length, codes, decimal, if◌then◌else◌}
use Rattle.pj_change.specs.declared.print.Step.{Step}
use Rattle.pj_change.specs.declared.print.StepKind.{StepKind}
use Rattle.pj_change.specs.declared.print.StepKind.TheVariants as step_kind
use Rattle.pj_change.specs.declared.print.StepWord.{StepWord}
use Rattle.pj_change.specs.declared.print.StepWord.TheVariants as word
use Rattle.pj_change.specs.declared.change.Record.{Record}
use Rattle.pj_change.specs.Text.{line}
use Rattle.pj_change.specs.FileText.{IsFileText}
use Rattle.pj_change.specs.Walk.{IsWalk}

-- a word as it is written
abbrev pub word_text : StepWord → List ℕ
word_text word.Alive = codes "alive"
word_text word.Zombie = codes "zombie"
word_text word.Orphan = codes "orphan"
word_text word.Adrift = codes "adrift"

-- the bytes of an entry of this kind
abbrev pub IsEntryBy : List Record → Step → List ℕ → StepKind → Type 0
IsEntryBy S s bytes step_kind.Dir = bytes ≡ line (codes "dir" ∷ word_text s.word ∷ s.path ∷ [])
IsEntryBy S s bytes step_kind.Same = bytes ≡ line (codes "same" ∷ word_text s.word ∷ s.path ∷ [])
IsEntryBy S s bytes step_kind.File =
    (text : List ℕ) × IsFileText S s.inode text
    × (bytes ≡ line ((if s.exec then codes "exec" else codes "file") ∷ word_text s.word ∷ decimal (length text) ∷ s.path ∷ []) ++ text ++ 10 ∷ [])

-- the bytes of the entries, one after the other
abbrev pub AreEntries : List Record → List Step → List ℕ → Type 0
AreEntries S [] bytes = bytes ≡ []
AreEntries S (s ∷ steps) bytes = (first : List ℕ) × (rest : List ℕ) × (bytes ≡ first ++ rest) × IsEntryBy S s first s.kind × AreEntries S steps rest

-- the print of S
pub record IsPrint (S : List Record) (bytes : List ℕ) : Type 0 where
  pub walk : List Step
  pub is_walk : IsWalk S walk
  pub entries : AreEntries S walk bytes
