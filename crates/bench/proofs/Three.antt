-- The journal of three passes, of which the first has entered nothing.
use Rattle.std.proofs.Common.{◌≡◌, ◌≢◌, ℕ, zero, suc, ◌<◌, List, [], ◌∷◌, get_or, sym, ◌∙◌, subst, arith}
use mathlib.Core.Logic.{dite}
use native.Mathlib.Decide.{ℕ_discrete}
use Rattle.pj_book.specs.declared.entry.Entry.{Entry}
use Rattle.pj_book.specs.EntriesOf.{entries_of}
use Rattle.pj_book.specs.Token.{Token, own}
use Rattle.pj_book.specs.IsOf.{IsOf}

-- a number among three is one of them
among : (a b c n k : ℕ) → k < 3 → get_or (a ∷ b ∷ c ∷ []) k n ≡ n → a ≢ n → b ≢ n → c ≢ n → ⊥
among a b c n zero lt e x y z = x e
among a b c n (suc zero) lt e x y z = y e
among a b c n (suc (suc zero)) lt e x y z = z e
among a b c n (suc (suc (suc k))) lt e x y z = absurd (omega arith)

module _ {C : Type 0} (log : List (Entry C)) (p0 p1 p2 : Token C) (is : IsOf log (p0 ∷ p1 ∷ p2 ∷ [])) where
  pub of_first : (n : ℕ) → p0.number ≡ n → entries_of n log ≡ own p0
  of_first n e = subst (λ k. entries_of k log ≡ own p0) e (is.each 0 p0 (omega arith)).own

  pub of_second : (n : ℕ) → p1.number ≡ n → entries_of n log ≡ own p1
  of_second n e = subst (λ k. entries_of k log ≡ own p1) e (is.each 1 p0 (omega arith)).own

  pub of_third : (n : ℕ) → p2.number ≡ n → entries_of n log ≡ own p2
  of_third n e = subst (λ k. entries_of k log ≡ own p2) e (is.each 2 p0 (omega arith)).own

  pub of_others : own p0 ≡ [] → p0.number ≡ 0 → p1.number ≡ 1 → p2.number ≡ 2 → (n : ℕ) → n ≢ 1 → n ≢ 2 → entries_of n log ≡ []
  of_others none e0 e1 e2 n ne1 ne2 =
      dite (ℕ_discrete n 0)
      (λ e. of_first n (e0 ∙ sym e) ∙ none)
      (λ ne0. is.others n (λ has. among p0.number p1.number p2.number n has.0 has.1 has.2 (λ e. ne0 (sym e ∙ e0)) (λ e. ne1 (sym e ∙ e1)) (λ e. ne2 (sym e ∙ e2))))
