-- The change that inserts behind an insertion, by the order of its two needs.
use Rattle.std.proofs.Common.{◌≡◌, refl, ℕ, true, false, [], ◌∷◌}
use Rattle.pj_name.specs.Name.{name_below}
use Rattle.pj_change.specs.Text.{text_of}
use Rattle.pj_gen.specs.declared.changes.Insertion.{Insertion}
use Rattle.pj_gen.specs.Changes.{zero_name, load_change, behind, following}

pub zero_first : (i : ℕ) (last : Insertion) → name_below zero_name last.name ≡ true →
    text_of (following i last) ≡ text_of (load_change i (zero_name ∷ last.name ∷ []) (behind i last 1 2 ∷ []))
unfolding following
zero_first i last below = rw below refl

pub last_first : (i : ℕ) (last : Insertion) → name_below zero_name last.name ≡ false →
    text_of (following i last) ≡ text_of (load_change i (last.name ∷ zero_name ∷ []) (behind i last 2 1 ∷ []))
unfolding following
last_first i last above = rw above refl
