-- What was written, after one more piece.
use Rattle.std.proofs.Common.{◌≡◌, ◌∙◌, ℕ, List, length, ◌++◌, ◌+◌, ◌-◌, take, drop, refl}
use Rattle.std.proofs.lemmas.List.{take_rest, append_assoc}
use Rattle.std.proofs.Math.Seq.{take-add}

-- the first i bytes were written, then n of those after them
pub take_more_written : (before between after s : List ℕ) (i n : ℕ)
    → between ≡ before ++ take i s
    → after ≡ between ++ take n (take (length s - i) (drop i s))
    → after ≡ before ++ take (i + n) s
take_more_written before between after s i n e f =
    f ∙ rw (e, take_rest s i, take-add i n s, append_assoc) refl
