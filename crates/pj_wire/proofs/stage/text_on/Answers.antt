use Rattle.pj_wire.proofs.Stages.{text_goes_on, text_ends}
use Rattle.pj_wire.proofs.stage.text_on.Goals as goal

pub returns-then-count-missing : goal.returns-then-count-missing
returns-then-count-missing c = λ bytes long. (tt, text_goes_on c.args.missing c.args.count bytes long c.if-count-missing.true)

pub returns-else-count-missing : goal.returns-else-count-missing
returns-else-count-missing c = λ bytes long. text_ends c.args.missing c.args.count bytes long c.if-count-missing.false
