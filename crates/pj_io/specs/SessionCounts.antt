-- How many sessions a door in memory has: what the laws of doors and offices in memory rest on.
use Rattle.std.specs.Prelude.{◌≡◌, ℕ, zero, suc, List, [], ◌∷◌, length, drop, map, refl}
use Rattle.std.proofs.Common.{ap}
use Rattle.pj_io.specs.Sessions.{first_sessions, shared_sessions}

-- as many as told
pub session_count : (n : ℕ) (sessions : List (List ℕ)) → length (first_sessions n sessions) ≡ n
unfolding first_sessions
session_count zero sessions = refl
session_count (suc n) [] = ap suc (session_count n [])
session_count (suc n) (session ∷ sessions) = ap suc (session_count n sessions)

-- each door has as many as its share
pub shared_counts : (sessions : List (List ℕ)) (shares : List ℕ) → map length (shared_sessions sessions shares) ≡ shares
unfolding shared_sessions
shared_counts sessions [] = refl
shared_counts sessions (share ∷ shares) =
    λ i. session_count share sessions i ∷ shared_counts (drop share sessions) shares i
