-- The words of `keep`.
use Rattle.std.specs.Prelude.{ℕ, ◌&&◌, List, [], ◌∷◌, codes, Option, Some, None, if◌then◌else◌, string_bytes}
use Rattle.std.specs.declared.string.String.{String}
use Rattle.std.specs.declared.alloc.Global.{Global}
use Rattle.pj_serve.specs.Tasks.{is_word}

-- the path in `keep PATH` and `keep PATH one`; all other words are not those of `keep`
abbrev pub keep_of : List (String Global) → Option (List ℕ)
keep_of (word ∷ path ∷ []) = if is_word word (codes "keep") then Some (string_bytes path) else None
keep_of (word ∷ path ∷ one ∷ []) =
    if is_word word (codes "keep") && is_word one (codes "one") then Some (string_bytes path) else None
keep_of words = None
