-- What a command answers where the channel or the change that it looks up is there, and where it is not.
use Rattle.std.proofs.Common.{◌≡◌, ℕ, List, refl, sym, subst, inr}
use Rattle.std.specs.Prelude.{Option, Some, None, MatchOption}
use Rattle.std.specs.Option.{option_map}
use Rattle.pj_name.specs.declared.name.Name.{Name}
use Rattle.pj_change.specs.declared.change.Record.{Record}
use Rattle.pj_change.specs.Lawful.{record_of}
use Rattle.pj_machine.specs.declared.channel_name.ChannelName.{ChannelName}
use Rattle.pj_machine.specs.declared.command.Command.{Command}
use Rattle.pj_machine.specs.declared.command.Command.TheVariants as command
use Rattle.pj_machine.specs.declared.journal.Entry.{Entry}
use Rattle.pj_machine.specs.declared.limits.Limits.{Limits}
use Rattle.pj_machine.specs.declared.reply.Numbered.{Numbered}
use Rattle.pj_machine.specs.declared.reply.Numbered.TheVariants.{At, NoMemory}
use Rattle.pj_machine.specs.declared.reply.Reply.{Reply}
use Rattle.pj_machine.specs.declared.reply.Refusal.TheVariants as refusal
use Rattle.pj_machine.specs.Answer.{AnswersIn, InChannel, InStore}
use Rattle.pj_machine.specs.Outcome.{Outcome, says, refuses}
use Rattle.pj_machine.specs.State.{State, list_of}
use Rattle.pj_machine.proofs.SoundSteps.{legal_replay}
use Rattle.pj_state.specs.declared.standing.Standing.{Standing}
use Rattle.pj_state.specs.IsKept.{standing, standing_of}
use Rattle.pj_state.specs.Kept.{Kept}
use Rattle.pj_state.specs.LastEntry.{last_of}
use Rattle.pj_state.specs.Replies.{Replies, Reads}
use Rattle.pj_state.specs.Shared.{IsAt, first_channel, first_change}

-- ---- look-ups

pub in_channel : (s : State) (name : ChannelName) (list : List Record) (rest : List Record → Outcome → Type 0) (o : Outcome) → list_of s name ≡ Some list → rest list o → InChannel s name rest o
in_channel s name list rest o e h = subst (λ l. MatchOption l (o ≡ refuses refusal.Channel) (λ list. rest list o)) (sym e) h

pub in_store : (s : State) (name : Name) (r : Record) (rest : Record → Outcome → Type 0) (o : Outcome) → record_of s.store name ≡ Some r → rest r o → InStore s name rest o
in_store s name r rest o e h = subst (λ l. MatchOption l (o ≡ refuses refusal.Change) (λ r. rest r o)) (sym e) h

-- the list of what stands there
pub standing_list : (s : State) (journal : List Entry) (name : ChannelName) (c : Standing) → standing_of s journal name ≡ Some c → list_of s name ≡ Some c.channel
standing_list s journal name c e = go (last_of name journal) (list_of s name) e
  where
    go : (n : ℕ) (o : Option (List Record)) → option_map (λ list. standing list n) o ≡ Some c → o ≡ Some c.channel
    go n None h = absurd (cc)
    go n (Some list) h = (let k : standing list n ≡ c = cc in subst (λ (x : Standing). Some list ≡ Some x.channel) k refl)

-- what is said of what is not there
pub none_gives : {X : Type 0} (o : Option X) (A : Type 0) (B : X → Type 0) → o ≡ None → A → MatchOption o A B
none_gives None A B e a = a
none_gives (Some x) A B e a = absurd (cc)

-- and of what is there
pub some_gives : {X : Type 0} (o : Option X) (A : Type 0) (B : X → Type 0) (x : X) → o ≡ Some x → B x → MatchOption o A B
some_gives None A B x e b = absurd (cc)
some_gives {X} (Some y) A B x e b = (let k : x ≡ y = cc in subst B k b)

-- ---- commands

module _ (limits : Limits) (s : State) (journal : List Entry) where
  abbrev answers : Command → Outcome → Type 0
  answers x o = AnswersIn limits s journal x o

  -- the first channel that it looks up is not there
  pub without_channel : (name : ChannelName) → list_of s name ≡ None → (x : Command) → first_channel x ≡ Some name → answers x (refuses refusal.Channel)
  without_channel name none (command.Fork from to) e = none_gives (list_of s from) _ _ (let k : from ≡ name = cc in subst (λ n. list_of s n ≡ None) (sym k) none) refl
  without_channel name none (command.Drop own) e = none_gives (list_of s own) _ _ (let k : own ≡ name = cc in subst (λ n. list_of s n ≡ None) (sym k) none) refl
  without_channel name none (command.Apply own change) e = none_gives (list_of s own) _ _ (let k : own ≡ name = cc in subst (λ n. list_of s n ≡ None) (sym k) none) refl
  without_channel name none (command.Unrecord own change) e = none_gives (list_of s own) _ _ (let k : own ≡ name = cc in subst (λ n. list_of s n ≡ None) (sym k) none) refl
  without_channel name none (command.Uproot own change) e = none_gives (list_of s own) _ _ (let k : own ≡ name = cc in subst (λ n. list_of s n ≡ None) (sym k) none) refl
  without_channel name none (command.Pull into from) e = none_gives (list_of s into) _ _ (let k : into ≡ name = cc in subst (λ n. list_of s n ≡ None) (sym k) none) refl
  without_channel name none (command.Graph own) e = none_gives (list_of s own) _ _ (let k : own ≡ name = cc in subst (λ n. list_of s n ≡ None) (sym k) none) refl
  without_channel name none (command.Print own) e = none_gives (list_of s own) _ _ (let k : own ≡ name = cc in subst (λ n. list_of s n ≡ None) (sym k) none) refl
  without_channel name none (command.Log own) e = none_gives (list_of s own) _ _ (let k : own ≡ name = cc in subst (λ n. list_of s n ≡ None) (sym k) none) refl
  without_channel name none (command.Put text) e = absurd (cc)
  without_channel name none (command.Get own) e = absurd (cc)
  without_channel name none (command.Inverse own) e = absurd (cc)
  without_channel name none (command.New own) e = absurd (cc)
  without_channel name none command.Channels e = absurd (cc)
  without_channel name none command.Journal e = absurd (cc)
  without_channel name none command.Quit e = absurd (cc)

  -- the change that it looks up is not there
  pub without_change : (name : Name) → record_of s.store name ≡ None → (x : Command) → first_change x ≡ Some name → answers x (refuses refusal.Change)
  without_change name none (command.Get own) e = none_gives (record_of s.store own) _ _ (let k : own ≡ name = cc in subst (λ n. record_of s.store n ≡ None) (sym k) none) refl
  without_change name none (command.Inverse own) e = none_gives (record_of s.store own) _ _ (let k : own ≡ name = cc in subst (λ n. record_of s.store n ≡ None) (sym k) none) refl
  without_change name none (command.Put text) e = absurd (cc)
  without_change name none (command.New own) e = absurd (cc)
  without_change name none (command.Fork from to) e = absurd (cc)
  without_change name none (command.Drop own) e = absurd (cc)
  without_change name none (command.Apply own change) e = absurd (cc)
  without_change name none (command.Unrecord own change) e = absurd (cc)
  without_change name none (command.Uproot own change) e = absurd (cc)
  without_change name none (command.Pull into from) e = absurd (cc)
  without_change name none (command.Graph own) e = absurd (cc)
  without_change name none (command.Print own) e = absurd (cc)
  without_change name none (command.Log own) e = absurd (cc)
  without_change name none command.Channels e = absurd (cc)
  without_change name none command.Journal e = absurd (cc)
  without_change name none command.Quit e = absurd (cc)

-- ---- replies

-- a reply at a place that enters nothing
pub reads_at : (k : Kept) (place : ℕ) (P : State → Type 0) → IsAt k place P → (x : Command) (reply : Reply) →
    ((s : State) → P s → AnswersIn k.limits s k.journal x (says reply)) → (result : Numbered) → result ≡ At place reply → Reads k x result
reads_at k place P at x reply answer result e =
    let s = legal_replay k.limits k.journal at.legal in
    subst (λ n. Reads k x n) (sym e) (at.at, record { state = s.0; replayed = s.1; answers = answer s.0 (at.state s.0 s.1) })

-- a reply that enters nothing leaves the state as it was
pub replies_of : (k : Kept) (pass call : ℕ) (x : Command) (result : Numbered) → Reads k x result → Replies k pass call x k result
replies_of k pass call x (At place reply) h = (h.0, inr (record { same = refl; answer = h.1 }))
replies_of k pass call x NoMemory h = refl
