-- What is entered does not depend on who entered what stands before it.
use Rattle.std.proofs.Common.{◌≡◌, ◌∙◌, suc, List, [], ◌∷◌, length, Some, None, refl, sym, ap, subst}
use Rattle.pj_machine.specs.declared.command.Command.{Command}
use Rattle.pj_machine.specs.declared.command.Command.TheVariants as command
use Rattle.pj_machine.specs.declared.command.Write.{Write}
use Rattle.pj_machine.specs.declared.command.Write.TheVariants as write
use Rattle.pj_machine.specs.declared.journal.Entry.{Entry}
use Rattle.pj_machine.specs.declared.limits.Limits.{Limits}
use Rattle.pj_machine.specs.declared.reply.Reply.{Reply}
use Rattle.pj_machine.specs.Answer
use Rattle.pj_machine.specs.Entries.{writes}
use Rattle.pj_machine.specs.Outcome.{Outcome}
use Rattle.pj_machine.specs.Replay.{Leads}
use Rattle.pj_machine.specs.State.{State, opening}
use Rattle.pj_machine.specs.Step.{Steps}

-- ---- equal writes

-- equal lists have one first element
same_first : {X : Type 0} (x y : X) (xs ys : List X) → x ∷ xs ≡ y ∷ ys → x ≡ y
same_first x y xs ys e = cc

-- and one rest
same_rest : {X : Type 0} (x y : X) (xs ys : List X) → x ∷ xs ≡ y ∷ ys → xs ≡ ys
same_rest x y xs ys e = cc

-- as many entries
pub same_count : (j k : List Entry) → writes j ≡ writes k → length j ≡ length k
same_count j k same = sym (count j) ∙ ap (λ (l : List Write). length l) same ∙ count k
  where
    count : (j : List Entry) → length (writes j) ≡ length j
    count [] = refl
    count (e ∷ j) = ap (λ n. suc n) (count j)

-- they lead to one state
leads_same : (s : State) (j k : List Entry) (t : State) → writes j ≡ writes k → Leads s j t → Leads s k t
leads_same s [] [] t same leads = leads
leads_same s [] (f ∷ k) t same leads = absurd (cc same)
leads_same s (e ∷ j) [] t same leads = absurd (cc same)
leads_same s (e ∷ j) (f ∷ k) t same leads = (
  leads.0,
  subst (λ w. Steps s w leads.0) (same_first e.write f.write (writes j) (writes k) same) leads.1,
  leads_same leads.0 j k t (same_rest e.write f.write (writes j) (writes k) same) leads.2,
)

-- ---- one answer

-- a command that enters a write is answered by the state and by how many entries there are
answers_same : (limits : Limits) (s : State) (j k : List Entry) (x : Command) (o : Outcome) (w : Write) → length j ≡ length k → o.entered ≡ Some w →
    Answer.AnswersIn limits s j x o → Answer.AnswersIn limits s k x o
answers_same limits s j k (command.Put text) o w size some h = subst (λ n. Answer.Puts limits s n text o) size h
answers_same limits s j k (command.Get name) o w size some h = h
answers_same limits s j k (command.Inverse name) o w size some h = h
answers_same limits s j k (command.New name) o w size some h = subst (λ n. Answer.Makes limits s n name (write.New name) o) size h
answers_same limits s j k (command.Fork from to) o w size some h = subst (λ n. Answer.Forks limits s n from to o) size h
answers_same limits s j k (command.Drop name) o w size some h = subst (λ n. Answer.Drops limits s n name o) size h
answers_same limits s j k (command.Apply name change) o w size some h = subst (λ n. Answer.Applies limits s n name change o) size h
answers_same limits s j k (command.Unrecord name change) o w size some h = subst (λ n. Answer.Unrecords limits s n name change o) size h
answers_same limits s j k (command.Uproot name change) o w size some h = subst (λ n. Answer.Uproots limits s n name change o) size h
answers_same limits s j k (command.Pull into from) o w size some h = subst (λ n. Answer.Pulls limits s n into from o) size h
answers_same limits s j k (command.Graph name) o w size some h = h
answers_same limits s j k (command.Print name) o w size some h = h
answers_same limits s j k (command.Log name) o w size some h = h
answers_same limits s j k command.Channels o w size some h = h
answers_same limits s j k command.Journal o w size some h =
    absurd (let none : o.entered ≡ None = ap (λ (p : Outcome). p.entered) h in let e : Some w ≡ None = sym some ∙ none in cc e)
answers_same limits s j k command.Quit o w size some h = h

-- a write is entered after every journal of the same writes
pub entered_same : (limits : Limits) (j k : List Entry) (x : Command) (reply : Reply) (w : Write) → writes j ≡ writes k →
    Answer.IsAnswer limits j x reply (Some w) → Answer.IsAnswer limits k x reply (Some w)
entered_same limits j k x reply w same a = record {
  state = a.state;
  replayed = leads_same opening j k a.state same a.replayed;
  answers = answers_same limits a.state j k x (record { reply = reply; entered = Some w }) w (same_count j k same) refl a.answers;
}
