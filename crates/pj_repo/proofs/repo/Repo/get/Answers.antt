use Rattle.std.proofs.Common.{refl, subst, sym}
use Rattle.pj_change.specs.declared.change.Record.{Record}
use Rattle.pj_machine.specs.declared.command.Command.TheVariants as command
use Rattle.pj_state.specs.Shared.{IsAt, Stores}
use Rattle.pj_repo.proofs.Answering.{answered_by_look}
use Rattle.pj_repo.proofs.repo.Repo.get.Goals as goal

pub returns-in-Ok : goal.returns-in-Ok
returns-in-Ok g c =
    let l = c.in-Ok.ensures in
    let stored = subst (λ (r : Record). IsAt l.state c.in-Ok.seen.place (Stores c.args.name r)) (sym c.deref.ensures) l.read in
    answered_by_look _ _ _ _ l (command.Get c.args.name) _ (c.get_reply.ensures l.state c.args.name stored)

pub returns-in-Err : goal.returns-in-Err
returns-in-Err g c = answered_by_look _ _ _ _ c.in-Err.ensures (command.Get c.args.name) _ (c.in-Err.ensures.read (command.Get c.args.name) refl)
