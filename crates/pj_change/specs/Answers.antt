-- What it means that an answer comes exactly where its cause stands.
use Rattle.std.specs.Prelude.{◌≡◌, ◌⊎◌, Result, Err}

-- The answer comes only where its cause stands; and where it stands, no other comes but want of memory, which is free.
pub record ComesWhere {T E : Type 0} (memory : E) (result answer : Result T E) (cause : Type 0) : Type 0 where
  pub only : result ≡ answer → cause
  pub always : cause → (result ≡ answer) ⊎ (result ≡ Err memory)
