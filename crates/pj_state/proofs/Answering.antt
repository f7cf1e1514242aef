-- A reply that enters nothing.
use Rattle.std.proofs.Common.{◌≡◌, ℕ, List, [], ◌∷◌, ◌++◌, length, refl, sym, ◌∙◌, ap, subst, inr}
use Rattle.pj_machine.specs.declared.command.Command.{Command}
use Rattle.pj_machine.specs.declared.reply.Numbered.{Numbered}
use Rattle.pj_machine.specs.declared.reply.Numbered.TheVariants.{At}
use Rattle.pj_machine.specs.declared.reply.Reply.{Reply}
use Rattle.pj_machine.specs.Answer.{AnswersIn}
use Rattle.pj_machine.specs.Legal.{IsLegal, command_of}
use Rattle.pj_machine.specs.Call.{entry}
use Rattle.pj_machine.specs.Outcome.{says, enters}
use Rattle.pj_machine.specs.Replay.{IsReplay}
use Rattle.pj_machine.specs.State.{State}
use Rattle.pj_machine.specs.declared.command.Write.{Write}
use Rattle.pj_machine.specs.declared.journal.Entry.{Entry}
use Rattle.pj_machine.specs.declared.limits.Limits.{Limits}
use Rattle.pj_machine.proofs.SoundSteps.{legal_replay}
use Rattle.pj_state.specs.Kept.{Kept, kept, pushed, After}
use Rattle.pj_state.specs.Replies.{Replies, Reads, Enters}

module _ (k : Kept) (legal : IsLegal k.limits k.journal) where
  -- of a command that may enter something
  pub looks : (pass call : ℕ) (x : Command) (reply : Reply) → After k.journal (λ s. AnswersIn k.limits s k.journal x (says reply)) → (result : Numbered) → result ≡ At (length k.journal) reply → Replies k pass call x k result
  looks pass call x reply h result e =
      let s = legal_replay k.limits k.journal legal in
      subst (λ n. Replies k pass call x k n) (sym e) (refl, inr (record { same = refl; answer = record { state = s.0; replayed = s.1; answers = h s.0 s.1 } }))

  -- of one that enters nothing
  pub reads : (x : Command) (reply : Reply) → After k.journal (λ s. AnswersIn k.limits s k.journal x (says reply)) → (result : Numbered) → result ≡ At (length k.journal) reply → Reads k x result
  reads x reply h result e =
      let s = legal_replay k.limits k.journal legal in
      subst (λ n. Reads k x n) (sym e) (refl, record { state = s.0; replayed = s.1; answers = h s.0 s.1 })

-- what was entered
pub enters_now : (k : Kept) (pass call : ℕ) (w : Write) (reply : Reply) (s : State) → IsReplay k.journal s → AnswersIn k.limits s k.journal (command_of w) (enters reply w) →
    (limits : Limits) (items more : List Entry) → kept limits items ≡ k → more ≡ items ++ entry pass call w ∷ [] → Enters k pass call (command_of w) (kept limits more) reply
enters_now k pass call w reply s r answers limits items more seen added = record {
  write = w;
  entered = ap (kept limits) added ∙ ap (λ x. pushed x pass call w) seen;
  answer = record { state = s; replayed = r; answers = answers };
}
