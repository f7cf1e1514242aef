use Rattle.pj_machine.proofs.Entered.{refused, entered}
use Rattle.pj_machine.proofs.laws.entered_as_replied.Goals as goal

pub returns-clause-refused : goal.returns-clause-refused
returns-clause-refused c = refused

pub returns-clause-entered : goal.returns-clause-entered
returns-clause-entered c = entered
