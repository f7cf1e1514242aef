-- What is not told needs no proof.
use Rattle.std.specs.Prelude.{Bool, true, false, IsTrue}
use Rattle.std.proofs.Common.{subst}

-- P where this is true, and nothing where it is false
abbrev IfFalse : Type 0 → Bool → Type 0
IfFalse P false = Unit {0}
IfFalse P true = P

pub untold : {P : Type 0} → IsTrue false → P
untold {P = P} told = subst (IfFalse P) told tt
