-- The size of a change, by which the steps of its application are bounded.
use Rattle.std.specs.Prelude.{ℕ, ◌+◌, List, [], ◌∷◌, ◌++◌, length, sum_by}
use Rattle.pj_change.specs.declared.point.Ref.{Ref}
use Rattle.pj_change.specs.declared.hunk.Hunk.{Hunk}
use Rattle.pj_change.specs.declared.hunk.Hunk.TheVariants.{File, Dir, NameOf, Insert, Order}
use Rattle.pj_change.specs.declared.change.Record.{Record}
use Rattle.pj_change.specs.Covers.{by_of}

-- the references of a hunk
abbrev pub refs_of : Hunk → List Ref
refs_of (File parent name exec) = parent ∷ []
refs_of (Dir parent name) = parent ∷ []
refs_of (NameOf parent child name exec) = parent ∷ child ∷ []
refs_of (Insert file ups downs bytes) = file ∷ (ups ++ downs)
refs_of (Order file source target) = file ∷ source ∷ target ∷ []
refs_of h = []

-- a hunk, its references, and the names under its `by`
abbrev pub hunk_weight : Hunk → ℕ
hunk_weight h = 1 + length (refs_of h) + length (by_of h)

-- the hunks, references and needs of a change, and the names under `by`
abbrev pub weight : Record → ℕ
weight r = sum_by hunk_weight r.change.hunks + length r.change.needs
