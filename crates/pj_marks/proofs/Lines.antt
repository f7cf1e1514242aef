-- The end of a line.
use Rattle.std.proofs.Common.{◌≡◌, ℕ, zero, suc, List, [], ◌∷◌, length, get_or, nat_eq, refl, arith}
use Rattle.pj_change.specs.MarkedText.{ends_line}

-- bytes end a line where the last of them is a newline
pub ends_line_by_last : (bytes : List ℕ) (last : ℕ) → length bytes ≡ suc last → ends_line bytes ≡ nat_eq (get_or bytes last 0) 10
ends_line_by_last [] last long = absurd (omega arith)
ends_line_by_last (b ∷ []) zero long = refl
ends_line_by_last (b ∷ []) (suc last) long = absurd (omega arith)
ends_line_by_last (b ∷ c ∷ bytes) zero long = absurd (omega arith)
ends_line_by_last (b ∷ c ∷ bytes) (suc last) long = ends_line_by_last (c ∷ bytes) last (omega arith)
