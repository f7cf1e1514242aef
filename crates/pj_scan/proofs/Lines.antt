-- The bytes before a first newline, and the newline, are a line.
use Rattle.std.proofs.Common.{◌≡◌, sym, ap, ◌∙◌, ℕ, List, [], ◌∷◌, ◌++◌, length, get_or, arith}
use Rattle.std.proofs.lemmas.Bool.{eqb-true, eq-eqb}
use Rattle.std.proofs.lemmas.List.{get_or_at, get_or_append_left}
use Rattle.std.proofs.lemmas.Grind.{get_or_default_zero}
use Rattle.memchr.specs.Find.{NoneBefore, Passes, is_byte}
use Rattle.pj_scan.specs.Scan.{IsLine, IsPiece, Lacks}

-- a piece before the place lacks the newline
lacks_before : (bytes line mid : List ℕ) (k : ℕ) → bytes ≡ line ++ mid → length line ≡ k
    → NoneBefore (Passes (is_byte 10) bytes) 0 (length bytes) k → Lacks 10 line
lacks_before bytes line mid k stands count first j d below is =
    let at : get_or bytes j 0 ≡ get_or line j 0 = ap (λ (s : List ℕ). get_or s j 0) stands ∙ get_or_append_left line mid 0 j below in
    let found : get_or bytes j 0 ≡ 10 = at ∙ sym (get_or_default_zero line j d below) ∙ is in
    first.before j (omega arith) (omega (arith, count)) (eq-eqb (get_or bytes j 0) 10 found)

-- a piece up to the place of the first newline, and one byte, are a line
pub line_passed : (bytes line mid one left : List ℕ) (k : ℕ) → IsPiece k bytes line mid → IsPiece 1 mid one left
    → NoneBefore (Passes (is_byte 10) bytes) 0 (length bytes) k × Passes (is_byte 10) bytes k
    → IsLine bytes line left
line_passed bytes line mid [] left k piece next first = absurd (omega (arith, next.whole))
line_passed bytes line mid (a ∷ b ∷ more) left k piece next first = absurd (omega (arith, next.whole))
line_passed bytes line mid (b ∷ []) left k piece next first =
    let stands : bytes ≡ line ++ b ∷ left = piece.stands ∙ ap (λ (s : List ℕ). line ++ s) next.stands in
    let at : get_or bytes k 0 ≡ b = ap (λ (s : List ℕ). get_or s k 0) stands ∙ get_or_at line b left 0 k piece.whole in
    let newline : b ≡ 10 = sym at ∙ eqb-true _ 10 first.1 in
    record {
      stands = stands ∙ ap (λ (c : ℕ). line ++ c ∷ left) newline;
      whole = lacks_before bytes line mid k piece.stands piece.whole first.0;
    }
