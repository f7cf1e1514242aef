use Rattle.pj_change.proofs.RunLaws.{run_one, run_lawful}
use Rattle.pj_change.proofs.RunLemmas.{run_within}
use Rattle.pj_change.proofs.channel_laws.runs_are_lawful.Goals as goal

pub returns-clause-one : goal.returns-clause-one
returns-clause-one c = run_one

pub returns-clause-lawful : goal.returns-clause-lawful
returns-clause-lawful c = run_lawful

pub returns-clause-brought : goal.returns-clause-brought
returns-clause-brought c = run_within
