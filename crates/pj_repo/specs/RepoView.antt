-- What contracts see of a repository.
use Rattle.std.specs.Prelude.{ℕ}
use Rattle.pj_machine.specs.declared.limits.Limits.{Limits}

-- how many passes were made, and the limits
pub record RepoView : Type 0 where
  pub made : ℕ
  pub limits : Limits
