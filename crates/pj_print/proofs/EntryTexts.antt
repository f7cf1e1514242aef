-- What is written of a step is its entry.
use Rattle.std.proofs.Common.{◌≡◌, ℕ, List, refl}
use Rattle.pj_change.specs.declared.print.Step.{Step}
use Rattle.pj_change.specs.declared.print.StepKind.{StepKind}
use Rattle.pj_change.specs.declared.print.StepKind.TheVariants as step_kind
use Rattle.pj_change.specs.declared.change.Record.{Record}
use Rattle.pj_change.specs.FileText.{IsFileText}
use Rattle.pj_change.specs.Print.{IsEntryBy}
use Rattle.pj_print.specs.Entries.{entry_by, entry_text}

by_kind : (S : List Record) (s : Step) (text : List ℕ) (kind : StepKind) → (kind ≡ step_kind.File → IsFileText S s.inode text) → IsEntryBy S s (entry_by s text kind) kind
by_kind S s text step_kind.Dir file = refl
by_kind S s text step_kind.Same file = refl
by_kind S s text step_kind.File file = (text, file refl, refl)

-- the text is asked for where the entry is a file
pub is_entry : (S : List Record) (s : Step) (text : List ℕ) → (s.kind ≡ step_kind.File → IsFileText S s.inode text) → IsEntryBy S s (entry_text s text) s.kind
is_entry S s text file = by_kind S s text s.kind file
