-- What the commands that enter something answer, where a look-up or a test fails and where none does.
use Rattle.std.proofs.Common.{◌≡◌, ◌≤◌, ℕ, List, [], ◌++◌, length, refl, sym, ◌∙◌, inl, inr, Bool, true, false, IsTrue}
use Rattle.std.specs.Prelude.{Option, Some, None, IsSome}
use Rattle.pj_name.specs.declared.name.Name.{Name}
use Rattle.pj_change.specs.declared.change.Record.{Record}
use Rattle.pj_change.specs.Lawful.{record_of}
use Rattle.pj_change.specs.Sets.{HaveOneText}
use Rattle.pj_change.specs.Union.{union}
use Rattle.pj_machine.specs.declared.channel_name.ChannelName.{ChannelName}
use Rattle.pj_machine.specs.declared.command.Command.TheVariants as command
use Rattle.pj_machine.specs.declared.command.Write.{Write}
use Rattle.pj_machine.specs.declared.command.Write.TheVariants as write
use Rattle.pj_machine.specs.declared.limits.Limits.{Limits}
use Rattle.pj_machine.specs.declared.reply.Reply.{Reply}
use Rattle.pj_machine.specs.declared.reply.Reply.TheVariants.{Done}
use Rattle.pj_machine.specs.declared.reply.Refusal.{Refusal}
use Rattle.pj_machine.specs.declared.reply.Refusal.TheVariants as refusal
use Rattle.pj_machine.specs.Answer.{AnswersIn, Makes, Writes}
use Rattle.pj_machine.specs.Legal.{IsLegal}
use Rattle.pj_machine.specs.Outcome.{Outcome, refuses, enters}
use Rattle.pj_machine.specs.State.{State, list_of}
use Rattle.pj_machine.proofs.SoundSteps.{legal_replay, legal_sound}
use Rattle.pj_state.specs.Installs.{Installs, MayMake}
use Rattle.pj_state.specs.Kept.{Kept, After}
use Rattle.pj_state.specs.Shared.{HasChannel}
use Rattle.pj_state.proofs.LookUps.{none_gives, some_gives}
use Rattle.pj_state.proofs.Setting.{sets_new, sets_fork, sets_pull, one_text}

-- a test that is false refutes its meaning
pub refuted : {A : Type 0} (b : Bool) → (A → IsTrue b) → b ≡ false → A → ⊥
refuted b f e a = (let t : IsTrue b = f a in let k : true ≡ false = sym t ∙ e in cc)

-- the last refusal, and none
pub writes_full : (limits : Limits) (n : ℕ) (reply : Reply) (w : Write) → limits.entries ≤ n → Writes limits n reply w (refuses refusal.FullJournal)
writes_full limits n reply w full = inl (full, refl)

pub writes_entered : (limits : Limits) (n : ℕ) (reply : Reply) (w : Write) → (limits.entries ≤ n → ⊥) → Writes limits n reply w (enters reply w)
writes_entered limits n reply w room = inr (room, refl)

-- a channel that may be made
makes : (limits : Limits) (s : State) (n : ℕ) (name : ChannelName) (w : Write) → MayMake limits s name → (o : Outcome) → Writes limits n Done w o → Makes limits s n name w o
makes limits s n name w may o h = inr (gone (list_of s name) may.0, inr (may.1, h))
  where
    gone : (o : Option (List Record)) → o ≡ None → IsSome o → ⊥
    gone None e i = absurd (cc)
    gone (Some list) e i = absurd (cc)

module _ (k : Kept) (s : State) where
  pub installs_new : (name : ChannelName) → MayMake k.limits s name → Installs k s (write.New name) name []
  installs_new name may = record { sets = sets_new s name may.0; answers = λ o w. makes k.limits s (length k.journal) name (write.New name) may o w }

  pub installs_fork : (from to : ChannelName) (list : List Record) → HasChannel from list s → MayMake k.limits s to → Installs k s (write.Fork from to) to list
  installs_fork from to list there may = record {
    sets = sets_fork s to from list there may.0;
    answers = λ o w. some_gives (list_of s from) _ _ list there (makes k.limits s (length k.journal) to (write.Fork from to) may o w);
  }

  pub installs_pull : (into from : ChannelName) (list other : List Record) → HasChannel into list s → HasChannel from other s → (after : List Record) → after ≡ union list other → Installs k s (write.Pull into from) into after
  installs_pull into from list other there also after is = record {
    sets = sets_pull s into list there from other also after is;
    answers = λ o w. some_gives (list_of s into) _ _ list there (some_gives (list_of s from) _ _ other also w);
  }

  -- ---- refusals

  pub fork_refused : (from to : ChannelName) (list : List Record) → HasChannel from list s → (why : Refusal) → Makes k.limits s (length k.journal) to (write.Fork from to) (refuses why) → AnswersIn k.limits s k.journal (command.Fork from to) (refuses why)
  fork_refused from to list there why h = some_gives (list_of s from) _ _ list there h

  pub drop_full : (name : ChannelName) (list : List Record) → HasChannel name list s → k.limits.entries ≤ length k.journal → AnswersIn k.limits s k.journal (command.Drop name) (refuses refusal.FullJournal)
  drop_full name list there full = some_gives (list_of s name) _ _ list there (writes_full k.limits (length k.journal) Done (write.Drop name) full)

  pub drop_entered : (name : ChannelName) (list : List Record) → HasChannel name list s → (k.limits.entries ≤ length k.journal → ⊥) → AnswersIn k.limits s k.journal (command.Drop name) (enters Done (write.Drop name))
  drop_entered name list there room = some_gives (list_of s name) _ _ list there (writes_entered k.limits (length k.journal) Done (write.Drop name) room)

  pub pull_refused : (into from : ChannelName) (list : List Record) → HasChannel into list s → list_of s from ≡ None → AnswersIn k.limits s k.journal (command.Pull into from) (refuses refusal.Channel)
  pull_refused into from list there none = some_gives (list_of s into) _ _ list there (none_gives (list_of s from) _ _ none refl)

  module _ (name : ChannelName) (list : List Record) (there : HasChannel name list s) (change : Name) (none : record_of s.store change ≡ None) where
    pub apply_refused : AnswersIn k.limits s k.journal (command.Apply name change) (refuses refusal.Change)
    apply_refused = some_gives (list_of s name) _ _ list there (none_gives (record_of s.store change) _ _ none refl)

    pub unrecord_refused : AnswersIn k.limits s k.journal (command.Unrecord name change) (refuses refusal.Change)
    unrecord_refused = some_gives (list_of s name) _ _ list there (none_gives (record_of s.store change) _ _ none refl)

    pub uproot_refused : AnswersIn k.limits s k.journal (command.Uproot name change) (refuses refusal.Change)
    uproot_refused = some_gives (list_of s name) _ _ list there (none_gives (record_of s.store change) _ _ none refl)

-- two channels of a legal journal have one text for each name
pub kept_one_text : (k : Kept) → IsLegal k.limits k.journal → (into from : ChannelName) (list other : List Record) → After k.journal (HasChannel into list) → After k.journal (HasChannel from other) → HaveOneText (list ++ other)
kept_one_text k legal into from list other there also =
    let s = legal_replay k.limits k.journal legal in
    one_text s.0 (legal_sound k.limits k.journal s.0 legal s.1) into from list other (there s.0 s.1) (also s.0 s.1)
