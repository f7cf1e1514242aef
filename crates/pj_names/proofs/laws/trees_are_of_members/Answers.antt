use Rattle.pj_names.proofs.TreeChanges.{tree_of_members}
use Rattle.pj_names.proofs.laws.trees_are_of_members.Goals as goal

pub returns : goal.returns
returns c = tree_of_members
