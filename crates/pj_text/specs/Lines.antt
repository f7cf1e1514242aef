-- Lines as they are written.
use Rattle.std.specs.Prelude.{ℕ, List, [], ◌∷◌, ◌++◌}
use Rattle.std.specs.List.{flat_map}
use Rattle.pj_name.specs.declared.name.Name.{Name}
use Rattle.pj_name.specs.Name.{hex}

-- words, each after a space
abbrev pub spaced : List (List ℕ) → List ℕ
spaced = flat_map (λ word. 32 ∷ word)

-- a label and the name of a change
abbrev pub name_line : List ℕ → Name → List ℕ
name_line label name = label ++ (hex name.bytes ++ 10 ∷ [])
