use Rattle.std.proofs.Common.{refl}
use Rattle.pj_machine.specs.declared.command.Command.TheVariants as command
use Rattle.pj_repo.proofs.Answering.{answered_by_look}
use Rattle.pj_repo.proofs.repo.Repo.log.Goals as goal

pub returns-in-Ok : goal.returns-in-Ok
returns-in-Ok g c = answered_by_look _ _ _ _ c.in-Ok.ensures (command.Log c.args.name) _ (c.log_reply.ensures c.in-Ok.ensures.state c.args.name c.in-Ok.ensures.read)

pub returns-in-Err : goal.returns-in-Err
returns-in-Err g c = answered_by_look _ _ _ _ c.in-Err.ensures (command.Log c.args.name) _ (c.in-Err.ensures.read (command.Log c.args.name) refl)
