-- The journal of the first pass, which has entered nothing, and of others that have entered the same labels.
use Rattle.std.proofs.Common.{◌≡◌, ◌⊎◌, ℕ, zero, suc, ◌<◌, ◌≤◌, List, [], ◌∷◌, length, map, get_or, All, Option, Some, IfSome, sym, ◌∙◌, ap, subst, inl, inr, ⊎_elim, arith, lt_of_not-le}
use Rattle.std.proofs.lemmas.List.Elements.{All-nil, All-cons, All-head, All-tail}
use Rattle.std.proofs.lemmas.Option.{IfSome_then}
use mathlib.Core.Logic.{dite}
use native.Mathlib.Decide.{dec_le}
use Rattle.pj_book.specs.declared.entry.Entry.{Entry}
use Rattle.pj_book.specs.EntriesOf.{entries_of}
use Rattle.pj_book.specs.Token.{Token, own}
use Rattle.pj_book.specs.IsAll.{numbers, IsAll}
use Rattle.pj_book.specs.IsOf.{HasOwn, IsOf}
use Rattle.bench.specs.LabelsOf.{labels_of, HasLabels}

all_some : {X : Type 0} (Q : X → Type 0) (ps : List X) (ws : List (Option X)) → map Some ps ≡ ws → All (λ w. IfSome w Q) ws → All Q ps
all_some Q [] ws e all = All-nil Q
all_some Q (p ∷ ps) [] e all = absurd (cc e)
all_some Q (p ∷ ps) (w ∷ ws) e all =
    let same : Some p ≡ w = (cc) in
    All-cons Q p ps (subst (λ o. IfSome o Q) (sym same) (All-head (λ w. IfSome w Q) w ws all)) (all_some Q ps ws (cc) (All-tail (λ w. IfSome w Q) w ws all))

-- an entry number among these is that of one of them
at_number : (ps : List (Token ℕ)) (k n : ℕ) → k < length (numbers ps) → get_or (numbers ps) k n ≡ n → (log : List (Entry ℕ)) → All (HasOwn log) ps → (Q : Token ℕ → Type 0) → All Q ps
    → (p : Token ℕ) × (p.number ≡ n) × (entries_of n log ≡ own p) × Q p
at_number [] k n lt e log own_all Q all = absurd (omega arith)
at_number (p ∷ ps) zero n lt e log own_all Q all =
    (p, e, subst (λ m. entries_of m log ≡ own p) e (All-head (HasOwn log) p ps own_all).own, All-head Q p ps all)
at_number (p ∷ ps) (suc k) n lt e log own_all Q all = at_number ps k n (omega arith) e log (All-tail (HasOwn log) p ps own_all) Q (All-tail Q p ps all)

module _ (made : ℕ) (log : List (Entry ℕ)) (first : Token ℕ) (passes : List (Token ℕ)) (workers : List (Option (Token ℕ))) (labels : List ℕ)
    (all : IsAll made passes) (is : IsOf log passes) (gathered : map Some passes ≡ Some first ∷ workers) (done : All (λ w. IfSome w (HasLabels labels)) workers)
    (number : first.number ≡ 0) (nothing : own first ≡ []) where
  abbrev Either : Token ℕ → Type 0
  Either p = ((p.number ≡ 0) × (own p ≡ [])) ⊎ HasLabels labels p

  each_pass : All Either passes
  each_pass =
      all_some Either passes (Some first ∷ workers) gathered
      (All-cons (λ w. IfSome w Either) (Some first) workers (inl (number, nothing)) (λ k d lt. IfSome_then (get_or workers k d) (done k d lt) (λ p h. inr h)))

  found : (n : ℕ) → n < made → (p : Token ℕ) × (p.number ≡ n) × (entries_of n log ≡ own p) × Either p
  found n lt = let has = all.each n lt in at_number passes has.0 n has.1 has.2 log is.each Either each_pass

  pub of_each : (n : ℕ) → 0 < n → n < made → labels_of (entries_of n log) ≡ labels
  of_each n pos lt =
      let at = found n lt in
      ⊎_elim (λ none. let zero = sym at.1 ∙ none.0 in absurd (omega arith)) (λ h. ap labels_of at.2 ∙ h.entered) at.3

  pub of_others : (n : ℕ) → (n ≡ 0) ⊎ (made ≤ n) → entries_of n log ≡ []
  of_others n out =
      dite (dec_le made n)
      (λ le. is.others n (λ has. let below = all.below has.0 n has.1 in let e = has.2 in omega arith))
      (λ below.
      let zero : n ≡ 0 = ⊎_elim (λ z. z) (λ le. absurd (below le)) out in
      let at = found n (lt_of_not-le below) in
      ⊎_elim (λ none. at.2 ∙ none.1) (λ h. let pos = h.number in let same = at.1 in absurd (omega arith)) at.3)
