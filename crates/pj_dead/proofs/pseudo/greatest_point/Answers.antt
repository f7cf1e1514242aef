use Rattle.std.proofs.Common.{refl}
use Rattle.pj_dead.proofs.NextTargets.{under_greatest}
use Rattle.pj_dead.proofs.pseudo.greatest_point.Goals as goal

pub returns : goal.returns
returns c = λ p low. under_greatest p (record { change = c.of.result; offset = 4294967295 }) c.of.ensures refl low
