-- The sessions that a door in memory has still to give.
use Rattle.std.specs.Prelude.{ℕ, zero, suc, List, [], ◌∷◌, drop, map}
use Rattle.std.specs.declared.vec.Vec.{Vec}

-- the bytes of each session of a list
abbrev pub bytes_of_each : {A : Type 0} → List (Vec ℕ A) → List (List ℕ)
bytes_of_each sessions = map (λ session. session.items) sessions

-- the first n sessions; a session past the end of the list sends no byte
unfoldable pub first_sessions : ℕ → List (List ℕ) → List (List ℕ)
first_sessions zero sessions = []
first_sessions (suc n) [] = [] ∷ first_sessions n []
first_sessions (suc n) (session ∷ sessions) = session ∷ first_sessions n sessions

-- what each of several doors gets: its share of the sessions that the doors before it left
unfoldable pub shared_sessions : List (List ℕ) → List ℕ → List (List (List ℕ))
shared_sessions sessions [] = []
shared_sessions sessions (share ∷ shares) = first_sessions share sessions ∷ shared_sessions (drop share sessions) shares
