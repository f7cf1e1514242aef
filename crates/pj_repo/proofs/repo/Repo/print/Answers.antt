use Rattle.std.proofs.Common.{◌∙◌, ap, sym, refl}
use Rattle.pj_machine.specs.declared.limits.Limits.{Limits}
use Rattle.pj_repo.specs.RepoView.{RepoView}
use Rattle.pj_machine.specs.declared.command.Command.TheVariants as command
use Rattle.pj_repo.proofs.Answering.{answered_by_look}
use Rattle.pj_repo.proofs.repo.Repo.print.Goals as goal

pub returns-in-Ok : goal.returns-in-Ok
returns-in-Ok g c = answered_by_look _ _ _ _ c.in-Ok.ensures (command.Print c.args.name) _ (c.print_reply_in_threads.ensures c.in-Ok.ensures.state c.args.name (ap (λ (l : Limits). l.live) (c.in-Ok.ensures.limits_are ∙ sym (ap (λ (v : RepoView). v.limits) c.self.view_is))) c.in-Ok.ensures.read)

pub returns-in-Err : goal.returns-in-Err
returns-in-Err g c = answered_by_look _ _ _ _ c.in-Err.ensures (command.Print c.args.name) _ (c.in-Err.ensures.read (command.Print c.args.name) refl)
