use Rattle.pj_change.proofs.OneGraph.{one_graph}
use Rattle.pj_change.proofs.OnePrint.{print_one, first_wide_one}
use Rattle.pj_change.proofs.OneWalk.{walk_one}
use Rattle.pj_change.proofs.SameSets.{back_again}
use Rattle.pj_change.proofs.SamePrints.{walk-same, print-same, first_wide-same}
use Rattle.pj_change.proofs.EqualRecords.{have_one_change}
use Rattle.pj_change.proofs.GraphLemmas.{graph_same}
use Rattle.pj_change.proofs.laws.order_is_invisible.Goals as goal

pub returns-clause-graph : goal.returns-clause-graph
returns-clause-graph c = λ S T same g h a b. one_graph S T g h same a b

pub returns-clause-walk : goal.returns-clause-walk
returns-clause-walk c = λ S T same unique s t f g. walk_one S (have_one_change S unique) s t f (walk-same T S (back_again S T same) t g)

pub returns-clause-print : goal.returns-clause-print
returns-clause-print c = λ S T same unique a b f g. print_one S (have_one_change S unique) a b f (print-same T S (back_again S T same) b g)

pub returns-clause-first_wide : goal.returns-clause-first_wide
returns-clause-first_wide c = λ S T same unique limit p q f g.
    first_wide_one S (have_one_change S unique) limit p q f (first_wide-same T S (back_again S T same) limit q g)

pub returns-clause-graph_shared : goal.returns-clause-graph_shared
returns-clause-graph_shared c = λ S T same g a. graph_same S T g same a

pub returns-clause-walk_shared : goal.returns-clause-walk_shared
returns-clause-walk_shared c = walk-same

pub returns-clause-print_shared : goal.returns-clause-print_shared
returns-clause-print_shared c = print-same

pub returns-clause-first_wide_shared : goal.returns-clause-first_wide_shared
returns-clause-first_wide_shared c = first_wide-same
