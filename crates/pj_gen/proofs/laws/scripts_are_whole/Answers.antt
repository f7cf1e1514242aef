use Rattle.pj_gen.proofs.Calls.{all_whole}
use Rattle.pj_gen.proofs.laws.scripts_are_whole.Goals as goal

pub returns : goal.returns
returns c = all_whole
