-- What a decoder gives, and what it has left over.
use Rattle.std.proofs.Common.{◌≡◌, ℕ, ◌-◌, ◌≤◌, List, ◌++◌, length, drop, refl, sym, ◌∙◌, ap, arith, length-append}
use Rattle.std.proofs.lemmas.List.{drop_at}

-- what is left behind a request that was read is as long as what is kept
pub given : (old now bytes word rest kept : List ℕ) → now ≡ old → bytes ≡ now → bytes ≡ word ++ rest → kept ≡ drop (length now - length rest) now → old ≡ word ++ kept
given old now bytes word rest kept stays view is cut =
    let whole : now ≡ word ++ rest = sym view ∙ is in
    let place : length now - length rest ≡ length word = omega (arith, ap (λ (s : List ℕ). length s) whole, length-append word rest) in
    let same : kept ≡ rest = cut ∙ ap (λ (k : ℕ). drop k now) place ∙ ap (λ (s : List ℕ). drop (length word) s) whole ∙ drop_at word rest (length word) refl in
    sym stays ∙ whole ∙ ap (λ (s : List ℕ). word ++ s) (sym same)

-- so there is enough
pub enough : (now bytes word rest : List ℕ) → bytes ≡ now → bytes ≡ word ++ rest → length rest ≤ length now
enough now bytes word rest view is = omega (arith, ap (λ (s : List ℕ). length s) (sym view ∙ is), length-append word rest)
