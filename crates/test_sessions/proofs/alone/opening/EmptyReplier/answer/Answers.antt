use Rattle.std.proofs.Common.{◌≡◌, ℕ, List, [], refl, sym, ◌∙◌, ap, subst, inr, None}
use Rattle.pj_machine.specs.declared.command.Command.{Command}
use Rattle.pj_machine.specs.declared.command.Command.TheVariants as command
use Rattle.pj_machine.specs.declared.limits.Limits.{Limits}
use Rattle.pj_machine.specs.declared.reply.Reply.TheVariants.{Body}
use Rattle.pj_machine.specs.Answer.{AnswersIn, IsAnswer}
use Rattle.pj_machine.specs.JournalText.{journal_text, journal_from}
use Rattle.pj_machine.specs.Outcome.{gives}
use Rattle.pj_machine.specs.State.{opening}
use Rattle.test_sessions.proofs.alone.opening.EmptyReplier.answer.Goals as goal

no_entries : [] ≡ journal_text []
unfolding journal_from
no_entries = refl

-- where nothing was entered, `journal` is answered by an empty body
empty_answer : (limits : Limits) (x : Command) (body : List ℕ) → x ≡ command.Journal → body ≡ [] → IsAnswer limits [] x (Body body) None
empty_answer limits x body asked empty =
    let given : gives body ≡ gives (journal_text []) = ap gives (empty ∙ no_entries) in
    record { state = opening; replayed = refl; answers = subst (λ y. AnswersIn limits opening [] y (gives body)) (sym asked) given }

pub returns-in-Journal-clause-result : goal.returns-in-Journal-clause-result
returns-in-Journal-clause-result g c =
    inr (record {
      before = [];
      after = [];
      stands = refl;
      at = refl;
      none = refl;
      answer = empty_answer c.args.self.now.limits c.args.command.now c.of.result c.in-Journal.is (c.of.ensures ∙ c.new.ensures.items);
    })
