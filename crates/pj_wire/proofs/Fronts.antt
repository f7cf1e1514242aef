-- Fronts of bytes.
use Rattle.std.proofs.Common.{◌≡◌, ℕ, Bool, true, false, nat_eq, List, [], ◌∷◌, ◌++◌, length, drop, get_or, refl, sym, ◌∙◌, ap, ◌⊎◌, inl, inr, arith}
use Rattle.std.proofs.lemmas.Bool.Decides.{Decides-eqb}
use Rattle.std.proofs.lemmas.Slice.Eq.{starts_is}
use Rattle.std.specs.List.{starts_with}
use Rattle.std.specs.Prelude.{IsTrue}
use Rattle.std.proofs.lemmas.List.{append_cancel_left}
use Rattle.std.proofs.lemmas.Bool.Decides.{nat_tests}

-- of two fronts of one list the one is a front of the other
pub either_begins : (a b c d : List ℕ) → a ++ b ≡ c ++ d → ((r : List ℕ) × (a ++ r ≡ c)) ⊎ ((r : List ℕ) × (a ≡ c ++ r))
either_begins [] b c d e = inl (c, refl)
either_begins (x ∷ a) b [] d e = inr (x ∷ a, refl)
either_begins (x ∷ a) b (y ∷ c) d e =
    let same : x ≡ y = cc in
    elim (either_begins a b c d (cc)) [ inl h ↦ inl (h.0, ap (λ t. x ∷ t) h.1 ∙ ap (λ z. z ∷ c) same) | inr h ↦ inr (h.0, ap (λ t. x ∷ t) h.1 ∙ ap (λ z. z ∷ (c ++ h.0)) same) ]

-- bytes that are found to begin with a word do
pub begins_true : (s p : List ℕ) (r : Bool) → r ≡ starts_with nat_eq s p → r ≡ true → s ≡ p ++ drop (length p) s
begins_true s p r is yes' = (starts_is Decides-eqb s p r is).0 yes'

-- and others do not
pub begins_false : (s p : List ℕ) (r : Bool) → r ≡ starts_with nat_eq s p → r ≡ false → (rest : List ℕ) → s ≡ p ++ rest → ⊥
begins_false s p r is none rest e = let h : true ≡ false = sym ((starts_is Decides-eqb s p r is).1 rest e) ∙ none in cc

-- a word that begins with bytes goes on behind them with its next byte
pub next_byte : (word front behind left : List ℕ) (first byte : ℕ) → word ≡ front ++ behind → behind ≡ first ∷ left
    → (IsTrue (nat_eq first byte) → (rest : List ℕ) × (word ≡ front ++ byte ∷ rest)) × (((rest : List ℕ) × (word ≡ front ++ byte ∷ rest)) → IsTrue (nat_eq first byte))
next_byte word front behind left first byte whole is = (
  λ h. (left, whole ∙ ap (λ (s : List ℕ). front ++ s) is ∙ ap (λ (b : ℕ). front ++ b ∷ left) (told first byte h)),
  λ h. same first byte (ap (λ (s : List ℕ). get_or s 0 0) (append_cancel_left front (first ∷ left) (byte ∷ h.0) (ap (λ (s : List ℕ). front ++ s) (sym is) ∙ sym whole ∙ h.1))),
)
  where
    told : (a b : ℕ) → IsTrue (nat_eq a b) → a ≡ b
    told a b h = grind (arith, nat_tests)

    same : (a b : ℕ) → a ≡ b → IsTrue (nat_eq a b)
    same a b e = grind (arith, nat_tests)
