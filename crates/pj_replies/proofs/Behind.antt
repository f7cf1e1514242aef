-- Fields behind a text.
use Rattle.std.proofs.Common.{◌≡◌, ℕ, List, ◌++◌, refl}
use Rattle.pj_replies.proofs.Finding.{IsSequence, one_text}

-- a text shows where it ends, and what stands behind it is the value
pub behind : {W : Type 0} (text : List ℕ) (tail : W → List ℕ) (Allowed : W → Type 0) (some : W) → Allowed some
    → IsSequence (λ (_ : Unit {0}). text) (λ v. v ≡ tt) tail Allowed (λ w. text ++ tail w) Allowed (λ _ w. w)
behind text tail Allowed some ok = record {
  one = λ v w a b p q e. one_text text tt v w a b p q e;
  some = some;
  allowed = ok;
  made = λ k w p q. (q, refl);
  from = λ u ok. (tt, u, refl, ok, refl);
}
