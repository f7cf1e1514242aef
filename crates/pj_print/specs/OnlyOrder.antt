-- The order of the numbers of a graph, where its edges leave only one.
use Rattle.std.specs.Prelude.{◌≡◌, ℕ, suc, ◌<◌, List, Some, length, slice_get, slice_index}
use Rattle.pj_reach.specs.Links.{source, target}

-- each number stands in the other list at the place that stands at its place in the one
abbrev pub IsInverse : ℕ → List ℕ → List ℕ → Type 0
IsInverse size one other = (number : ℕ) → number < size → slice_get other (slice_index one number) ≡ Some number

-- each edge leads to a later place
abbrev pub LeadOnward : List (ℕ × ℕ) → List ℕ → Type 0
LeadOnward edges places = (e : ℕ) → e < length edges → slice_index places (source edges e) < slice_index places (target edges e)

-- an edge leads from the place to the next one
abbrev pub AreJoined : List (ℕ × ℕ) → List ℕ → ℕ → Type 0
AreJoined edges places at = (e : ℕ) × (e < length edges) × (slice_index places (source edges e) ≡ at) × (slice_index places (target edges e) ≡ suc at)

-- each number has a place in the list, each edge leads to a later place, and one leads from each place to the next
pub record IsOnlyOrder (edges : List (ℕ × ℕ)) (size : ℕ) (order : List ℕ) : Type 0 where
  pub places : List ℕ
  pub sized : length places ≡ size
  pub long : length order ≡ size
  pub placed : IsInverse size places order
  pub standing : IsInverse size order places
  pub onward : LeadOnward edges places
  pub joined : (at : ℕ) → suc at < size → AreJoined edges places at
