-- The hunks of an inverse, one after another.
use Rattle.std.proofs.Common.{◌≡◌, ℕ, ◌+◌, ◌<◌, List, [], ◌∷◌, ◌++◌, length, take, get_or, refl, sym, ◌∙◌, ap, subst, arith}
use Rattle.std.specs.Prelude.{sum_by}
use Rattle.std.proofs.lemmas.List.{take_more}
use Rattle.std.proofs.lemmas.List.Sums.{sum_by-cons}
use Rattle.pj_name.specs.declared.name.Name.{Name}
use Rattle.pj_change.specs.declared.hunk.Hunk.{Hunk}
use Rattle.pj_change.specs.declared.change.Record.{Record}
use Rattle.pj_change.specs.Rules.{position_count}
use Rattle.pj_change.specs.Inverse.{Undoes, UndoEach}

-- one hunk more is undone
pub undo_more : (c : Record) (needs : List Name) (first : ℕ) (hs gs : List Hunk) (h g : Hunk) → UndoEach c needs first hs gs → Undoes c needs (first + sum_by position_count hs) h g →
    UndoEach c needs first (hs ++ h ∷ []) (gs ++ g ∷ [])
undo_more c needs first [] gs h g a u = (let e : gs ≡ [] = a in subst (λ l. UndoEach c needs first (h ∷ []) (l ++ g ∷ [])) (sym e) (subst (λ n. Undoes c needs n h g) (omega arith) u, refl))
undo_more c needs first (k ∷ hs) [] h g a u = absurd a
undo_more c needs first (k ∷ hs) (f ∷ gs) h g a u =
    (a.0, undo_more c needs (first + position_count k) hs gs h g a.1 (subst (λ n. Undoes c needs n h g) (omega (arith, sum_by-cons position_count k hs)) u))

-- the items up to and with one of them
pub take_item : {X : Type 0} (xs : List X) (i : ℕ) (x : X) → i < length xs → x ≡ get_or xs i x → take (i + 1) xs ≡ take i xs ++ x ∷ []
take_item xs i x low is = take_more xs i x low ∙ ap (λ y. take i xs ++ y ∷ []) (sym is)
