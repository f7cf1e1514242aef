-- What is shared out of a state.
use Rattle.std.proofs.Common.{◌≡◌, ℕ, List, refl, sym, ap, subst, inl, inr, length}
use Rattle.std.specs.Prelude.{Option, Some, None}
use Rattle.std.specs.Option.{option_map}
use Rattle.pj_name.specs.declared.name.Name.{Name}
use Rattle.pj_change.specs.declared.change.Record.{Record}
use Rattle.pj_change.specs.Lawful.{record_of}
use Rattle.pj_machine.specs.declared.channel_name.ChannelName.{ChannelName}
use Rattle.pj_machine.specs.declared.command.Command.{Command}
use Rattle.pj_machine.specs.declared.command.Command.TheVariants as command
use Rattle.pj_machine.specs.declared.reply.Numbered.TheVariants.{At}
use Rattle.pj_machine.specs.declared.reply.Reply.TheVariants.{No}
use Rattle.pj_machine.specs.declared.reply.Refusal.TheVariants as refusal
use Rattle.pj_machine.specs.Answer.{AnswersIn}
use Rattle.pj_machine.specs.Legal.{IsLegal}
use Rattle.pj_machine.specs.Outcome.{refuses}
use Rattle.pj_machine.specs.State.{State, list_of}
use Rattle.pj_machine.proofs.SoundSteps.{legal_replay}
use Rattle.pj_state.specs.declared.standing.Standing.{Standing}
use Rattle.pj_state.specs.IsKept.{standing, standing_of}
use Rattle.pj_state.specs.Kept.{Kept, After}
use Rattle.pj_state.specs.LastEntry.{last_of}
use Rattle.pj_state.specs.Replies.{Reads}
use Rattle.pj_repo.specs.ChangesBy.{ChangesBy}

-- what stands under a name has the list of the channel, and the number of its last entry
pub list_of_standing : (o : Option (List Record)) (n : ℕ) (found : Standing) → option_map (λ list. standing list n) o ≡ Some found → (o ≡ Some found.channel) × (found.last ≡ n)
list_of_standing None n found e = absurd (cc)
list_of_standing (Some list) n found e =
    let same : standing list n ≡ found = cc in
    (ap (λ (x : Standing). Some x.channel) same, sym (ap (λ (x : Standing). x.last) same))

module _ (k : Kept) (legal : IsLegal k.limits k.journal) (name : ChannelName) where
  pub last_is : (found : Standing) → After k.journal (λ s. standing_of s k.journal name ≡ Some found) → found.last ≡ last_of name k.journal
  last_is found h = (let s = legal_replay k.limits k.journal legal in (list_of_standing (list_of s.0 name) (last_of name k.journal) found (h s.0 s.1)).1)

  -- the channel is there, and the change is not
  pub lacks_change : (change : Name) (list : List Record) → After k.journal (λ s. list_of s name ≡ Some list) → After k.journal (λ s. record_of s.store change ≡ None) → (place : ℕ) → place ≡ length k.journal →
      (x : Command) → ChangesBy name change x → Reads k x (At place (No refusal.Change))
  lacks_change change list there none place at x by =
      let s = legal_replay k.limits k.journal legal in (
        at,
        record {
          state = s.0;
          replayed = s.1;
          answers = elim by [
            | inl e ↦ subst (λ y. AnswersIn k.limits s.0 k.journal y (refuses refusal.Change)) (sym e) (applies s.0 (there s.0 s.1) (none s.0 s.1))
            | inr e ↦ subst (λ y. AnswersIn k.limits s.0 k.journal y (refuses refusal.Change)) (sym e) (unrecords s.0 (there s.0 s.1) (none s.0 s.1))
          ];
        },
      )
    where
      applies : (s : State) → list_of s name ≡ Some list → record_of s.store change ≡ None → AnswersIn k.limits s k.journal (command.Apply name change) (refuses refusal.Change)
      applies s h g = rw (h, g) refl

      unrecords : (s : State) → list_of s name ≡ Some list → record_of s.store change ≡ None → AnswersIn k.limits s k.journal (command.Unrecord name change) (refuses refusal.Change)
      unrecords s h g = rw (h, g) refl
