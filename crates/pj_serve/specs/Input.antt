-- What taking the input does.
use Rattle.std.specs.Prelude.{◌≡◌, ℕ, ◌≤◌, List, ◌++◌, length, Result, IsErrOf, MatchResult}
use Rattle.std.specs.declared.vec.Vec.{Vec}
use Rattle.std.specs.declared.alloc.Global.{Global}
use Rattle.pj_io.specs.Causes.{Rose}
use Rattle.pj_serve.specs.declared.input.InputRefusal.{InputRefusal}
use Rattle.pj_serve.specs.declared.input.InputRefusal.TheVariants.{Fault}
use Rattle.pj_serve.specs.Show.{most_taken, WasRead}

-- some of the bytes were taken, at most as many as are taken at all
pub record HasTaken (all left : List ℕ) : Type 0 where
  pub text : List ℕ
  pub taken : all ≡ text ++ left
  pub few : length text ≤ most_taken

-- these bytes were taken, and they are the whole input or as much of it as is taken
pub record IsInput (all left text : List ℕ) : Type 0 where
  pub taken : all ≡ text ++ left
  pub few : length text ≤ most_taken
  pub whole : WasRead text left

-- the answer is the input; after a refusal some of the bytes were taken
abbrev pub Reads : List ℕ → List ℕ → Result (Vec ℕ Global) InputRefusal → Type 0
Reads all left result = MatchResult result (λ text. IsInput all left text.items) (λ _. HasTaken all left)

-- the count does not fall, and a fault comes only where it rose
pub record HasReadCause {T : Type 0} (before now : ℕ) (result : Result T InputRefusal) : Type 0 where
  pub never_falls : before ≤ now
  pub fault : IsErrOf result Fault → Rose before now
