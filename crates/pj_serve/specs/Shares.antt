-- How sessions are shared out among workers.
use Rattle.std.specs.Prelude.{ℕ, zero, suc, ◌+◌, ◌/◌, ◌%◌, nat_lt, if◌then◌else◌, List, [], ◌∷◌}

-- the share of worker w, counted from 0: the sessions divided by the workers, and one more for each of the first of what remains
abbrev pub share : ℕ → ℕ → ℕ → ℕ
share sessions workers w = sessions / workers + (if nat_lt w (sessions % workers) then 1 else 0)

-- the shares of so many workers from this one on
abbrev pub shares_from : ℕ → ℕ → ℕ → ℕ → List ℕ
shares_from sessions workers w zero = []
shares_from sessions workers w (suc more) = share sessions workers w ∷ shares_from sessions workers (w + 1) more

-- the share of each worker
abbrev pub shares : ℕ → ℕ → List ℕ
shares sessions workers = shares_from sessions workers 0 workers

-- all shares together
abbrev pub total : List ℕ → ℕ
total [] = 0
total (x ∷ xs) = x + total xs
