use Rattle.pj_names.proofs.TreeChanges.{tree_of_none}
use Rattle.pj_names.proofs.laws.no_change_has_no_name.Goals as goal

pub returns : goal.returns
returns c = tree_of_none
