use Rattle.pj_machine.proofs.OneAnswer.{answer_one}
use Rattle.pj_machine.proofs.laws.one_answer.Goals as goal

pub returns : goal.returns
returns c = answer_one
