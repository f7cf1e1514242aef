-- A loop that writes each place of a list once.
use Rattle.std.proofs.Common.{◌≡◌, ℕ, ◌<◌, ◌≤◌, List, length, get_or}

-- the first k places are as told, and the others as they were
pub record Written (told : ℕ → ℕ) (start now : List ℕ) (k : ℕ) : Type 0 where
  pub long : length now ≡ length start
  pub done : (j : ℕ) → j < k → get_or now j 0 ≡ told j
  pub rest : (j : ℕ) → k ≤ j → get_or now j 0 ≡ get_or start j 0
