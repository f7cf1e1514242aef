-- What the doors of one address are to callers who see doors alone.
use Rattle.std.proofs.Common.{◌≡◌, ◌∙◌, ℕ, List, [], ◌∷◌, length, map, Result, Ok, Err, IfOk, All, refl, ap}
use Rattle.std.proofs.lemmas.List.Elements.{All-map}
use Rattle.pj_io.specs.Sessions.{shared_sessions}
use Rattle.pj_io.specs.SessionCounts.{shared_counts}

-- doors that are made of their sessions, and tell them
module _ {D : Type 0} (make : List (List ℕ) → D) (coming : D → List (List ℕ))
    (comes : (part : List (List ℕ)) → coming (make part) ≡ part) where
  comings : (parts : List (List (List ℕ))) → map coming (map make parts) ≡ parts
  comings [] = refl
  comings (part ∷ parts) = λ i. comes part i ∷ comings parts i

  lefts : (parts : List (List (List ℕ))) → map (λ door. length (coming door)) (map make parts) ≡ map length parts
  lefts [] = refl
  lefts (part ∷ parts) = λ i. length (comes part i) ∷ lefts parts i

  -- its share comes at each door
  pub opened_comings : (doors : List D) (sessions : List (List ℕ)) (shares : List ℕ)
      → doors ≡ map make (shared_sessions sessions shares)
      → map coming doors ≡ shared_sessions sessions shares
  opened_comings doors sessions shares made = ap (map coming) made ∙ comings (shared_sessions sessions shares)

  -- each has as many sessions left as its share
  pub opened_lefts : (doors : List D) (sessions : List (List ℕ)) (shares : List ℕ)
      → doors ≡ map make (shared_sessions sessions shares)
      → map (λ door. length (coming door)) doors ≡ shares
  opened_lefts doors sessions shares made =
      ap (map (λ door. length (coming door))) made ∙ lefts (shared_sessions sessions shares) ∙ shared_counts sessions shares

-- what holds of each door that is made holds of all
pub opened_all : {D : Type 0}
    (make : List (List ℕ) → D) (P : D → Type 0) (doors : List D) (parts : List (List (List ℕ)))
    → ((part : List (List ℕ)) → P (make part))
    → doors ≡ map make parts
    → All P doors
opened_all make P doors parts each made = rw made (All-map P make parts (λ place part within. each _))

-- a fact that follows where there are doors
pub if_ok : {T E : Type 0} {P Q : T → Type 0} (result : Result T E) → IfOk result P → ((value : T) → P value → Q value) → IfOk result Q
if_ok (Ok value) holds follows = follows value holds
if_ok (Err e) holds follows = tt
