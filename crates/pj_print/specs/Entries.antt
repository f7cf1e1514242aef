-- The bytes of an entry of a print.
use Rattle.std.specs.Prelude.{ℕ, List, [], ◌∷◌, ◌++◌, length, codes, decimal, if◌then◌else◌}
use Rattle.pj_change.specs.declared.print.Step.{Step}
use Rattle.pj_change.specs.declared.print.StepKind.{StepKind}
use Rattle.pj_change.specs.declared.print.StepKind.TheVariants as step_kind
use Rattle.pj_change.specs.Print.{word_text}
use Rattle.pj_change.specs.Text.{line}

-- an entry of this kind; the text is that of the file, where the entry is one
abbrev pub entry_by : Step → List ℕ → StepKind → List ℕ
entry_by s text step_kind.Dir = line (codes "dir" ∷ word_text s.word ∷ s.path ∷ [])
entry_by s text step_kind.Same = line (codes "same" ∷ word_text s.word ∷ s.path ∷ [])
entry_by s text step_kind.File =
    line ((if s.exec then codes "exec" else codes "file") ∷ word_text s.word ∷ decimal (length text) ∷ s.path ∷ []) ++ text ++ 10 ∷ []

-- the bytes of an entry
abbrev pub entry_text : Step → List ℕ → List ℕ
entry_text s text = entry_by s text s.kind
