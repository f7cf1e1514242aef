-- The texts of the entries of a walk in a set S.
use Rattle.std.specs.Prelude.{◌≡◌, ℕ, List, None}
use Rattle.pj_change.specs.declared.print.Step.{Step}
use Rattle.pj_change.specs.declared.print.StepKind.TheVariants as step_kind
use Rattle.pj_change.specs.declared.change.Record.{Record}
use Rattle.pj_change.specs.FileText.{IsFileText}
use Rattle.pj_change.specs.FirstWide.{IsFirstWideOf}
use Rattle.pj_change.specs.Walk.{IsWalk}

-- where the entry is a file, the text is that of the file
pub record IsEntryText (S : List Record) (s : Step) (text : List ℕ) : Type 0 where
  pub of_file : s.kind ≡ step_kind.File → IsFileText S s.inode text

-- the walk of S, none of whose files has more live vertices than the limit
pub record IsNarrowWalk (S : List Record) (limit : ℕ) (walk : List Step) : Type 0 where
  pub is_walk : IsWalk S walk
  pub narrow : IsFirstWideOf S limit walk None
