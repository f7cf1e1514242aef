-- Texts of a length that is known.
use Rattle.std.proofs.Common.{◌≡◌, ℕ, ◌+◌, ◌≤◌, List, [], ◌∷◌, ◌++◌, length, ap, arith, length-append}
use Rattle.pj_wire.specs.Spelled.{StandsNone}

-- too few bytes
pub text_short : (bytes : List ℕ) (count : ℕ) → length bytes ≤ count → StandsNone (λ (text : List ℕ). text ++ 10 ∷ []) (λ text. length text ≡ count) bytes
text_short bytes count few text rest long e =
    let whole : length bytes ≡ length ((text ++ 10 ∷ []) ++ rest) = ap (λ (s : List ℕ). length s) e in
    omega (arith, whole, length-append (text ++ 10 ∷ []) rest, length-append text (10 ∷ []), long, few)
