use Rattle.pj_tree.proofs.TreeNamespaces.{is_namespace}
use Rattle.pj_names.proofs.laws.trees_are_namespaces.Goals as goal

pub returns : goal.returns
returns c = is_namespace
