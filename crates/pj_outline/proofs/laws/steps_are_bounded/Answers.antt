use Rattle.pj_outline.proofs.StepBounds.{steps_by_weight}
use Rattle.pj_outline.proofs.laws.steps_are_bounded.Goals as goal

pub returns : goal.returns
returns c = steps_by_weight
