use Rattle.pj_machine.proofs.NoneTold.{none_told}
use Rattle.pj_machine.proofs.laws.none_is_told.Goals as goal

pub returns : goal.returns
returns c = none_told
