use Rattle.pj_dead.proofs.NextTargets.{next_answer}
use Rattle.pj_dead.proofs.pseudo.Pseudo.next_above.Goals as goal

pub returns : goal.returns
returns c =
    rw (← c.self.view_is) (next_answer c.self.inside.rows c.args.source c.args.above c.greatest_point-least.result c.greatest_point-least.ensures c.target_after.result c.target_after.ensures)
