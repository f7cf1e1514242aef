use Rattle.pj_gen.proofs.Keeping.{all_changes}
use Rattle.pj_gen.proofs.laws.texts_are_changes.Goals as goal

pub returns : goal.returns
returns c = all_changes
