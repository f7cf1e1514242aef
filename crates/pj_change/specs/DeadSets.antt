-- Connected sets of dead things over any steps, and the rows that join live things across such a set.
use Rattle.std.specs.Prelude.{◌≡◌, ◌≢◌, ◌⊎◌}
use Rattle.std.specs.declared.cmp.Ordering.{Ordering}
use Rattle.std.specs.declared.cmp.Ordering.TheVariants.{Less}

-- ---- connected sets

-- a path over dead things alone leads from u to v
pub data IsDeadPath {X : Type 0} (Step : X → X → Type 0) (Dead : X → Type 0) (u : X) : X → Type 0 where
  here : Dead u → IsDeadPath Step Dead u u
  on : {v w : X} → IsDeadPath Step Dead u v → Step v w → Dead w → IsDeadPath Step Dead u w

-- a step leads from u to v, or from v to u
abbrev pub IsEitherWay : {X : Type 0} → (X → X → Type 0) → X → X → Type 0
IsEitherWay Step u v = Step u v ⊎ Step v u

-- u and v are in one connected set of dead things: a path over dead things alone joins them, whichever way its steps lead
abbrev pub AreConnected : {X : Type 0} → (X → X → Type 0) → (X → Type 0) → X → X → Type 0
AreConnected Step Dead = IsDeadPath (IsEitherWay Step) Dead

-- the least member of the connected set of dead things that has u
pub record IsLeastMember {X : Type 0} (Step : X → X → Type 0) (Dead : X → Type 0) (cmp : X → X → Ordering) (u least : X) : Type 0 where
  pub member : AreConnected Step Dead u least
  pub below : (v : X) → AreConnected Step Dead u v → cmp v least ≢ Less

-- a step from u enters the connected set of dead things with this least member, a path over dead things alone goes on from there, and a step leaves it to v
pub record IsAcrossSet {X : Type 0} (Step : X → X → Type 0) (Dead : X → Type 0) (cmp : X → X → Ordering) (least u v : X) : Type 0 where
  pub first : X
  pub last : X
  pub enters : Step u first
  pub dead : IsDeadPath Step Dead first last
  pub leaves : Step last v
  pub least_is : IsLeastMember Step Dead cmp first least

-- ---- rows

-- The row across a set with this least point, from the last point of a source to the first point of a target.
-- `Across` says of three things that the first is the least of a set that leads from the second to the third.
pub record IsRowAcross {X P : Type 0} (Across : X → X → X → Type 0) (Source Target : X → Type 0) (first_of last_of : X → P) (least source target : P) : Type 0 where
  pub lowest : X
  pub from : X
  pub to : X
  pub from_source : Source from
  pub to_target : Target to
  pub across : Across lowest from to
  pub least_is : first_of lowest ≡ least
  pub source_is : last_of from ≡ source
  pub target_is : first_of to ≡ target

-- a step leads from u to v, or a row from the last point of u to the first point of v
abbrev pub HasStepOrRow : {X P : Type 0} → (X → X → Type 0) → (P → P → P → Type 0) → (X → P) → (X → P) → X → X → Type 0
HasStepOrRow {X} {P} Step Row first_of last_of u v = Step u v ⊎ ((least : P) × Row least (last_of u) (first_of v))
