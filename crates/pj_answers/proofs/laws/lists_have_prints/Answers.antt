use Rattle.pj_answers.proofs.FileTexts.{text_there}
use Rattle.pj_answers.proofs.Graphs.{graph_there}
use Rattle.pj_answers.proofs.Prints.{print_there, first_wide_there}
use Rattle.pj_answers.proofs.Walks.{walk_there}
use Rattle.pj_answers.proofs.laws.lists_have_prints.Goals as goal

pub returns-clause-graph : goal.returns-clause-graph
returns-clause-graph c = graph_there

pub returns-clause-walk : goal.returns-clause-walk
returns-clause-walk c = walk_there

pub returns-clause-text : goal.returns-clause-text
returns-clause-text c = text_there

pub returns-clause-print : goal.returns-clause-print
returns-clause-print c = print_there

pub returns-clause-wide : goal.returns-clause-wide
returns-clause-wide c = first_wide_there
