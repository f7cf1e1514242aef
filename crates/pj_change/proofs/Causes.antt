-- An answer with its cause, and the others, whose causes it excludes.
use Rattle.std.proofs.Common.{◌≡◌, refl, inr, Err, Result}
use Rattle.pj_change.specs.Answers.{ComesWhere}

module _ {T E : Type 0} {memory : E} where
  -- another answer came, and what made it come excludes the cause
  pub excluded : (result answer : Result T E) (cause : Type 0) → (result ≡ answer → ⊥) → (cause → ⊥) → ComesWhere memory result answer cause
  excluded result answer cause other none = record { only = λ e. absurd (other e); always = λ c. absurd (none c) }

  -- want of memory came
  pub forgiven : (answer : Result T E) (cause : Type 0) → (Err memory ≡ answer → ⊥) → ComesWhere memory (Err memory) answer cause
  forgiven answer cause other = record { only = λ e. absurd (other e); always = λ c. inr refl }

-- causes that stand together have one answer
pub alike : {T E : Type 0} {memory : E} {result answer : Result T E} {P Q : Type 0} → ComesWhere memory result answer P → (P → Q) → (Q → P) → ComesWhere memory result answer Q
alike a there back = record { only = λ e. there (a.only e); always = λ q. a.always (back q) }
