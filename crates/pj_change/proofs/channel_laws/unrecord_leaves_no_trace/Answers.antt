use Rattle.pj_change.proofs.LawfulChanges.{unrecorded_lawful}
use Rattle.pj_change.proofs.RunLaws.{no_trace, as_never_applied}
use Rattle.pj_change.proofs.SmallerSets.{smaller_graph, smaller_print}
use Rattle.pj_change.proofs.channel_laws.unrecord_leaves_no_trace.Goals as goal

pub returns-clause-last : goal.returns-clause-last
returns-clause-last c = λ list change after lawful fresh. no_trace list change lawful fresh after

pub returns-clause-earlier : goal.returns-clause-earlier
returns-clause-earlier c = as_never_applied

pub returns-clause-lawful : goal.returns-clause-lawful
returns-clause-lawful c = unrecorded_lawful

pub returns-clause-graph : goal.returns-clause-graph
returns-clause-graph c = smaller_graph

pub returns-clause-print : goal.returns-clause-print
returns-clause-print c = smaller_print
