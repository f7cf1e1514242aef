use Rattle.std.proofs.Common.{ℕ, List, ◌∙◌, ap, subst, Err}
use Rattle.pj_machine.specs.declared.command.Command.TheVariants as command
use Rattle.pj_machine.specs.Answer.{IsMalformed}
use Rattle.pj_machine.specs.Answered.{Answered}
use Rattle.pj_repo.specs.Views.{pass_view}
use Rattle.pj_repo.proofs.Answering.{answered_by_look}
use Rattle.pj_repo.proofs.repo.Repo.put.Goals as goal

pub returns-in-Err-Malformed : goal.returns-in-Err-Malformed
returns-in-Err-Malformed g c =
    let malformed : IsMalformed c.args.text.now = subst IsMalformed c.items.ensures (c.in-Err-Malformed.ensures.malformed (ap Err c.in-Err-Malformed.field-0-is)) in
    answered_by_look _ _ _ _ c.look.ensures (command.Put c.args.text.now) _ (c.look.ensures.read c.args.text.now malformed)

pub returns-in-Err-Memory : goal.returns-in-Err-Memory
returns-in-Err-Memory g c = c.no_memory.ensures (command.Put c.args.text.now)

pub returns-in-Ok : goal.returns-in-Ok
returns-in-Ok g c =
    subst (λ (text : List ℕ). Answered c.args.self.now.limits (pass_view c.args.pass.now) (pass_view c.put_record.new.pass) (command.Put text) c.put_record.result) (c.in-Ok.ensures.text ∙ c.items.ensures) c.put_record.ensures
