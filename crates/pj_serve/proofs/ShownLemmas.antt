-- The lines that `show` writes, one hunk after the other.
use Rattle.std.proofs.Common.{◌≡◌, ℕ, suc, ◌+◌, ◌<◌, ◌≤◌, List, ◌∷◌, ◌++◌, length, get_or, drop, refl, sym, ◌∙◌, ap, append_assoc, append-nil, add-one}
use Rattle.std.proofs.lemmas.List.{drop_all}
use Rattle.std.proofs.Math.Seq.{drop-cons}
use Rattle.pj_change.specs.declared.hunk.Hunk.{Hunk}
use Rattle.pj_change.specs.Rules.{position_count}
use Rattle.pj_change.specs.Shown.{shown_from, shown_hunk}

-- the lines of some hunks begin with the line of the first of them
shown_from-cons : (k first : ℕ) (h : Hunk) (hs : List Hunk) → shown_from k first (h ∷ hs) ≡ shown_hunk k first h ++ shown_from (k + 1) (first + position_count h) hs
unfolding shown_from
shown_from-cons k first h hs = refl

-- the lines of the hunks from one on are its own line, and those of the later ones
pub shown_from-on : (hs : List Hunk) (k first : ℕ) (h : Hunk) (done : List ℕ) → h ≡ get_or hs k h → k < length hs →
    (done ++ shown_hunk k first h) ++ shown_from (k + 1) (first + position_count h) (drop (k + 1) hs) ≡ done ++ shown_from k first (drop k hs)
shown_from-on hs k first h done at low =
    let later : List ℕ = shown_from (k + 1) (first + position_count h) (drop (k + 1) hs) in
    let here : drop k hs ≡ h ∷ drop (k + 1) hs =
    drop-cons hs k h low ∙ ap (λ x. x ∷ drop (suc k) hs) (sym at) ∙ ap (λ n. h ∷ drop n hs) (sym (add-one k)) in
    append_assoc done (shown_hunk k first h) later
    ∙ ap (λ t. done ++ t) (sym (shown_from-cons k first h (drop (k + 1) hs)))
    ∙ ap (λ hunks. done ++ shown_from k first hunks) (sym here)

-- past the last hunk no line is missing
pub shown_from-end : (hs : List Hunk) (k first : ℕ) (done all : List ℕ) → length hs ≤ k → done ++ shown_from k first (drop k hs) ≡ all → done ≡ all
unfolding shown_from
shown_from-end hs k first done all past is =
    sym (append-nil done) ∙ sym (ap (λ hunks. done ++ shown_from k first hunks) (drop_all k hs past)) ∙ is
