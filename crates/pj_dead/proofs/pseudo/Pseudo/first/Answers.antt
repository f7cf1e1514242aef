use Rattle.std.proofs.Common.{ap}
use Rattle.std.specs.Prelude.{is_some}
use Rattle.pj_dead.proofs.NextTargets.{least_target, first_answer}
use Rattle.pj_dead.proofs.pseudo.Pseudo.first.Goals as goal

pub returns-in-Some : goal.returns-in-Some
returns-in-Some c =
    rw (c.least_point-least.ensures, ← c.self.view_is) (least_target c.self.inside.rows c.args.source (ap is_some (rw c.least_point-least.ensures at c.in-Some.ensures)))

pub returns-in-None : goal.returns-in-None
returns-in-None c =
    rw (← c.self.view_is)
    (first_answer c.self.inside.rows c.args.source (rw c.least_point-least.ensures at c.in-None.ensures) c.target_after.result (rw c.least_point-least.ensures at c.target_after.ensures))
