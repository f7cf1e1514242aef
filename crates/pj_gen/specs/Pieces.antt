-- The pieces of the text of a change of the large run.
use Rattle.std.specs.Prelude.{ℕ, List, [], ◌∷◌, ◌++◌, codes, decimal, Option, Some, None}
use Rattle.std.specs.List.{flat_map}
use Rattle.pj_name.specs.declared.name.Name.{Name}
use Rattle.pj_name.specs.Name.{hex}
use Rattle.pj_change.specs.declared.point.Ref.{Ref}
use Rattle.pj_change.specs.Text.{line}

-- the lines before the needs
abbrev pub head_lines : ℕ → List ℕ
head_lines i =
    line (codes "pijul" ∷ codes "change" ∷ decimal 1 ∷ [])
    ++ line (codes "message" ∷ decimal i ∷ [])
    ++ line (codes "author" ∷ codes "load" ∷ [])
    ++ line (codes "time" ∷ decimal i ∷ [])

-- a line for each need
abbrev pub need_lines : List Name → List ℕ
need_lines = flat_map (λ n. line (codes "needs" ∷ hex n.bytes ∷ []))

-- the last line
abbrev pub end_line : List ℕ
end_line = line (codes "end" ∷ [])

-- no reference, or one
abbrev pub at_most_one : Option Ref → List Ref
at_most_one None = []
at_most_one (Some r) = r ∷ []
