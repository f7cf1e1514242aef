use Rattle.pj_change.proofs.OneGraph.{one_graph}
use Rattle.pj_change.proofs.AgreeingPrints.{one_print, answer_shared}
use Rattle.pj_change.proofs.EqualRecords.{lawful_one_text}
use Rattle.pj_change.proofs.RunLaws.{list_run, orders_agree}
use Rattle.pj_change.proofs.channel_laws.orders_agree.Goals as goal

pub returns-clause-lists : goal.returns-clause-lists
returns-clause-lists c = list_run

pub returns-clause-sets : goal.returns-clause-sets
returns-clause-sets c = λ S T same g h x y. one_graph S T g h same x y

pub returns-clause-orders : goal.returns-clause-orders
returns-clause-orders c = orders_agree

pub returns-clause-prints : goal.returns-clause-prints
returns-clause-prints c = one_print

pub returns-clause-shared : goal.returns-clause-shared
returns-clause-shared c = answer_shared

pub returns-clause-texts : goal.returns-clause-texts
returns-clause-texts c = lawful_one_text
