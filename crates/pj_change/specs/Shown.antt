-- What `show` writes of a change: its name, and the positions of its hunks.
use Rattle.std.specs.Prelude.{ℕ, ◌+◌, List, [], ◌∷◌, ◌++◌, codes, decimal}
use Rattle.pj_name.specs.Name.{hex, name_of}
use Rattle.pj_change.specs.declared.hunk.Hunk.{Hunk}
use Rattle.pj_change.specs.declared.change.Change.{Change}
use Rattle.pj_change.specs.Text.{line, word}
use Rattle.pj_change.specs.Parts.{spelling}
use Rattle.pj_change.specs.Rules.{position_count}

-- the line of hunk k, whose first position is first: its number, its first word, its first position, and the position after its last
abbrev pub shown_hunk : ℕ → ℕ → Hunk → List ℕ
shown_hunk k first h = decimal k ++ codes " " ++ word h ++ codes " " ++ decimal first ++ codes "-" ++ decimal (first + position_count h) ++ 10 ∷ []

-- a line for each of the hunks, of which the first is hunk k and has the first position first
unfoldable pub shown_from : ℕ → ℕ → List Hunk → List ℕ
shown_from k first [] = []
shown_from k first (h ∷ hs) = shown_hunk k first h ++ shown_from (k + 1) (first + position_count h) hs

-- all that `show` writes: the digest of the change's text, and a line for each hunk
unfoldable pub shown : Change → List ℕ
shown c = line (codes "change" ∷ hex (name_of (spelling c)).bytes ∷ []) ++ shown_from 0 0 c.hunks
