-- The least name of some.
use Rattle.std.specs.Prelude.{◌≡◌, false}
use Rattle.pj_name.specs.declared.name.Name.{Name}
use Rattle.pj_name.specs.Name.{name_below}

-- P holds of the name, and of none below it
pub record IsLeast (P : Name → Type 0) (name : Name) : Type 0 where
  pub one : P name
  pub none_below : (n : Name) → P n → name_below n name ≡ false
