use Rattle.std.proofs.Common.{◌∙◌, ap, refl, inl}
use Rattle.std.specs.Arc.{arc_value}
use Rattle.pj_machine.specs.declared.command.Command.TheVariants as command
use Rattle.pj_machine.specs.declared.command.Write.TheVariants as write
use Rattle.pj_repo.specs.RepoView.{RepoView}
use Rattle.pj_repo.proofs.Answering.{answered_by_look, came_back}
use Rattle.pj_repo.proofs.Installing.{may_install}
use Rattle.pj_repo.proofs.repo.Repo.apply.Goals as goal

pub returns-in-Err : goal.returns-in-Err
returns-in-Err g c = answered_by_look _ _ _ _ c.in-Err.ensures (command.Apply c.args.name c.args.change) _ (c.in-Err.ensures.read (command.Apply c.args.name c.args.change) (inl refl))

pub returns-in-Err-applied : goal.returns-in-Err-applied
returns-in-Err-applied g c =
    let l = c.in-Ok.ensures in
    answered_by_look _ _ _ _ l (command.Apply c.args.name c.args.change) _ (c.in-Err-applied.ensures.refused c.args.change l.state c.args.name l.read.0 l.read.1)

pub again-requires-clause-needs : goal.again-requires-clause-needs
again-requires-clause-needs g c = λ lent kept begins.
    let l = c.in-Ok.ensures in
    let seen = c.in-Ok.seen in (
      λ e. cc,
      refl,
      may_install l.state seen.place c.args.name seen.channel c.args.change (arc_value seen.record) l.read.0 l.read.1 (λ name. write.Apply name c.args.change) _ (c.in-Ok-applied.ensures.applied c.args.change) _ l.sees lent begins seen.last l.read.2,
    )

pub returns : goal.returns
returns g c =
    let w = c.again.ensures.lent in
    came_back _ _ _ _ c.in-Ok.ensures _ w.lent w.left ((c.self.invariant w.lent).0 w.work.0 ∙ ap (λ (v : RepoView). v.limits) c.self.view_is) c.again.ensures.number c.again.ensures.calls w.begins w.sees w.gains
    (command.Apply c.args.name c.args.change) _ w.work.1.0
