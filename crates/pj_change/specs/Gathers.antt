-- Lists that gather the members of a set.
use Rattle.std.specs.Prelude.{ℕ, ◌<◌, List, Contains, ◌⊎◌}

-- the new list has the members of the old one, each thing of which P holds, and no other
pub record Gathers {X : Type 0} (P : X → Type 0) (old new : List X) : Type 0 where
  pub kept : (x : X) → Contains old x → Contains new x
  pub all : (x : X) → P x → Contains new x
  pub only : (x : X) → Contains new x → Contains old x ⊎ P x

-- the relation holds of the thing and a member of the list
pub record IsOfOne {X Y : Type 0} (P : Y → X → Type 0) (list : List Y) (x : X) : Type 0 where
  pub one : Y
  pub member : Contains list one
  pub is : P one x

-- the relation holds of a number below n and the thing
pub record IsOfNumber {X : Type 0} (P : ℕ → X → Type 0) (n : ℕ) (x : X) : Type 0 where
  pub number : ℕ
  pub low : number < n
  pub is : P number x
