use Rattle.pj_change.specs.Union.{union}
use Rattle.pj_change.proofs.AgreeingPrints.{one_print}
use Rattle.pj_change.proofs.OneGraph.{one_graph}
use Rattle.pj_change.proofs.Unions.{union_again, union_itself, union_associative, union_commutes, union_one_text}
use Rattle.pj_change.proofs.channel_laws.pull_is_a_union.Goals as goal

pub returns-clause-again : goal.returns-clause-again
returns-clause-again c = union_again

pub returns-clause-itself : goal.returns-clause-itself
returns-clause-itself c = union_itself

pub returns-clause-associative : goal.returns-clause-associative
returns-clause-associative c = union_associative

pub returns-clause-commutative : goal.returns-clause-commutative
returns-clause-commutative c = union_commutes

pub returns-clause-graph : goal.returns-clause-graph
returns-clause-graph c = λ a b unique g h x y. one_graph (union a b) (union b a) g h (union_commutes a b unique) x y

pub returns-clause-print : goal.returns-clause-print
returns-clause-print c = λ a b unique. one_print (union a b) (union b a) (union_one_text a b unique) (union_commutes a b unique)
