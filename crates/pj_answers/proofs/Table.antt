-- The table of answers: in a sound state each command but `inverse` has an outcome.
use Rattle.std.proofs.Common.{◌≡◌, ℕ, List, length, map, refl, inl, inr}
use Rattle.std.specs.Prelude.{◌⊎◌, ◌+◌, Option, Some, None, IsSome, Result, Ok, Err, MatchOption}
use Rattle.pj_name.specs.declared.name.Name.{Name}
use Rattle.pj_change.specs.declared.change.Record.{Record}
use Rattle.pj_change.specs.declared.refusals.Applied.{Applied}
use Rattle.pj_change.specs.declared.refusals.Applied.TheVariants as applied
use Rattle.pj_change.specs.declared.refusals.ApplyRefusal.{ApplyRefusal}
use Rattle.pj_change.specs.declared.refusals.ApplyRefusal.TheVariants as apply
use Rattle.pj_change.specs.declared.refusals.UnrecordRefusal.{UnrecordRefusal}
use Rattle.pj_change.specs.declared.refusals.UnrecordRefusal.TheVariants as unrecord
use Rattle.pj_change.specs.declared.refusals.UprootRefusal.{UprootRefusal}
use Rattle.pj_change.specs.declared.refusals.UprootRefusal.TheVariants as uproot
use Rattle.pj_change.specs.declared.refusals.PrintRefusal.{PrintRefusal}
use Rattle.pj_change.specs.declared.refusals.PrintRefusal.TheVariants as print
use Rattle.pj_change.specs.declared.change.Change.{Change}
use Rattle.pj_change.specs.Inverse.{IsInverse, IsFirstWithoutInverse}
use Rattle.pj_change.specs.Lawful.{record_of}
use Rattle.pj_change.specs.Parts.{spelling}
use Rattle.pj_change.proofs.Decided.{Known, known_as, known_both, known_one, known_not, known_some, known_less, known_name}
use Rattle.pj_machine.specs.declared.channel_name.ChannelName.{ChannelName}
use Rattle.pj_machine.specs.declared.command.Command.{Command}
use Rattle.pj_machine.specs.declared.command.Command.TheVariants as command
use Rattle.pj_machine.specs.declared.command.Write.{Write}
use Rattle.pj_machine.specs.declared.command.Write.TheVariants as write
use Rattle.pj_machine.specs.declared.journal.Entry.{Entry}
use Rattle.pj_machine.specs.declared.limits.Limits.{Limits}
use Rattle.pj_machine.specs.declared.reply.Reply.{Reply}
use Rattle.pj_machine.specs.declared.reply.Reply.TheVariants.{Done, Named, Already}
use Rattle.pj_machine.specs.declared.reply.Refusal.TheVariants as refusal
use Rattle.pj_machine.specs.Answer as answer
use Rattle.pj_machine.specs.GraphText.{graph_text}
use Rattle.pj_machine.specs.JournalText.{journal_text}
use Rattle.pj_machine.specs.Listings.{log_text, channels_text}
use Rattle.pj_machine.specs.Outcome.{Outcome, says, refuses, gives, enters, Unless}
use Rattle.pj_machine.specs.Sound.{IsSound}
use Rattle.pj_machine.specs.State.{State, list_of}
use Rattle.pj_machine.specs.Step.{IsListOf}
use Rattle.pj_machine.proofs.SoundStates.{list_lawful}
use Rattle.pj_answers.specs.Laws.{IsPlainCall, NeedsNotItself}
use Rattle.pj_answers.proofs.Inverses.{inverse_or_first}
use Rattle.pj_answers.proofs.Changes.{apply_answered, unrecord_answered}
use Rattle.pj_answers.proofs.Channels.{counts_there}
use Rattle.pj_answers.proofs.Graphs.{graph_there}
use Rattle.pj_answers.proofs.Prints.{print_answered}
use Rattle.pj_answers.proofs.Tests.{known_bytes}
use Rattle.pj_answers.proofs.Texts.{known_text, known_up_to}
use Rattle.pj_answers.proofs.Uproots.{uproot_answered}

-- some outcome is one of these
abbrev HasOutcome : (Outcome → Type 0) → Type 0
HasOutcome P = (o : Outcome) × P o

-- where a cause is known to stand or not
unless : (cause : Type 0) (reply : Reply) (rest : Outcome → Type 0) → Known cause → HasOutcome rest → HasOutcome (Unless cause reply rest)
unless cause reply rest (inl c) r = (says reply, inl (c, refl))
unless cause reply rest (inr n) r = (r.0, inr (n, r.1))

-- whether something was found
known_there : {X : Type 0} (o : Option X) → Known (IsSome o)
known_there None = inr (λ e. cc)
known_there (Some x) = inl refl

-- the outcome of a write that nothing else refuses
writes : (limits : Limits) (entries : ℕ) (reply : Reply) (w : Write) → HasOutcome (answer.Writes limits entries reply w)
writes limits entries reply w = unless _ _ _ (known_up_to limits.entries entries) (enters reply w, refl)

module _ (limits : Limits) (s : State) (entries : ℕ) where
  -- ---- what is looked up

  -- what is said of a channel
  in_channel : (name : ChannelName) (rest : List Record → Outcome → Type 0) →
      ((list : List Record) → IsListOf s name list → HasOutcome (rest list)) → HasOutcome (answer.InChannel s name rest)
  in_channel name rest each = by (list_of s name) refl
    where
      by : (found : Option (List Record)) → list_of s name ≡ found → HasOutcome
          (λ outcome. MatchOption found (outcome ≡ refuses refusal.Channel) (λ list. rest list outcome))
      by None e = (refuses refusal.Channel, refl)
      by (Some list) e = each list e

  -- what is said of a change of the store
  in_store : (name : Name) (rest : Record → Outcome → Type 0) → ((r : Record) → HasOutcome (rest r)) → HasOutcome (answer.InStore s name rest)
  in_store name rest each = by (record_of s.store name)
    where
      by : (found : Option Record) → HasOutcome (λ outcome. MatchOption found (outcome ≡ refuses refusal.Change) (λ r. rest r outcome))
      by None = (refuses refusal.Change, refl)
      by (Some r) = each r

  -- ---- `put`

  -- whether the store has a text
  known_has : (text : List ℕ) → Known (answer.HasText s text)
  known_has text = known_as (λ h. record { stored = h.0; member = h.1; same = h.2 }) (λ h. (h.stored, h.member, h.same))
      (known_some _ s.store (λ r. known_bytes r.text text))

  -- whether it has another one under the name
  known_other : (r : Record) → Known (answer.HasOtherText s r)
  known_other r = known_as (λ h. record { stored = h.0; member = h.1; named = h.2.0; other = h.2.1 }) (λ h. (h.stored, h.member, (h.named, h.other)))
      (known_some _ s.store (λ q. known_both (known_name q.name r.name) (known_not (known_bytes q.text r.text))))

  -- `put` has an outcome
  puts : (text : List ℕ) → HasOutcome (answer.Puts limits s entries text)
  puts text = by (known_text text)
    where
      by : ((r : Record) × (r.text ≡ text)) ⊎ answer.IsMalformed text → HasOutcome (answer.Puts limits s entries text)
      by (inr n) = (refuses refusal.Malformed, inl (n, refl))
      by (inl (r, e)) =
          let full = known_one (known_up_to limits.changes (length s.store)) (known_less limits.bytes (answer.bytes_held s + length r.text)) in
          let o : HasOutcome (answer.PutsChange limits s entries r) =
          unless _ _ _ (known_has r.text) (unless _ _ _ (known_other r) (unless _ _ _ full (writes limits entries (Named r.name) (write.Put r)))) in
          (o.0, inr (r, e, o.1))

  -- ---- channels as a whole

  -- so has the making of a channel
  makes : (name : ChannelName) (w : Write) → HasOutcome (answer.Makes limits s entries name w)
  makes name w = unless _ _ _ (known_there (list_of s name)) (unless _ _ _ (known_up_to limits.channels (length s.channels)) (writes limits entries Done w))

  -- ---- changes of a channel

  -- what a channel answers to an application
  as_applied : (w : Write) (result : Result (Applied (List Record)) ApplyRefusal) → (result ≡ Err apply.Memory → ⊥) → HasOutcome
      (answer.AsApplied limits entries w result)
  as_applied w (Ok applied.Already) n = (says Already, refl)
  as_applied w (Ok (applied.New after)) n = writes limits entries Done w
  as_applied w (Err (apply.Needs name)) n = (refuses (refusal.Needs name), refl)
  as_applied w (Err (apply.Context k)) n = (refuses (refusal.Context k), refl)
  as_applied w (Err apply.Memory) n = absurd (n refl)

  -- to an unrecord
  as_unrecorded : (w : Write) (result : Result (List Record) UnrecordRefusal) → (result ≡ Err unrecord.Memory → ⊥) → HasOutcome
      (answer.AsUnrecorded limits entries w result)
  as_unrecorded w (Ok after) n = writes limits entries Done w
  as_unrecorded w (Err unrecord.Absent) n = (refuses refusal.Absent, refl)
  as_unrecorded w (Err (unrecord.Held name)) n = (refuses (refusal.Held name), refl)
  as_unrecorded w (Err unrecord.Memory) n = absurd (n refl)

  -- to an uproot
  as_uprooted : (w : Write) (result : Result (List Record) UprootRefusal) → (result ≡ Err uproot.Memory → ⊥) → HasOutcome
      (answer.AsUprooted limits entries w result)
  as_uprooted w (Ok after) n = writes limits entries Done w
  as_uprooted w (Err uproot.Absent) n = (refuses refusal.Absent, refl)
  as_uprooted w (Err uproot.Memory) n = absurd (n refl)

  -- to a print
  as_printed : (result : Result (List ℕ) PrintRefusal) → (result ≡ Err print.Memory → ⊥) → HasOutcome (answer.AsPrinted result)
  as_printed (Ok bytes) n = (gives bytes, refl)
  as_printed (Err (print.Wide inode)) n = (refuses (refusal.Wide inode), refl)
  as_printed (Err print.Memory) n = absurd (n refl)

  module _ (sound : IsSound s) where
    -- `apply` has an outcome
    applies : (name : ChannelName) (change : Name) → HasOutcome (answer.Applies limits s entries name change)
    applies name change = in_channel name _ (λ list e. in_store change _ (λ r.
        (let x = apply_answered list r in let o = as_applied (write.Apply name change) x.0 x.2 in (o.0, (x.0, x.1, o.1)))))

    -- so has `unrecord`
    unrecords : (name : ChannelName) (change : Name) → HasOutcome (answer.Unrecords limits s entries name change)
    unrecords name change = in_channel name _ (λ list e. in_store change _ (λ r.
        (let x = unrecord_answered list change in let o = as_unrecorded (write.Unrecord name change) x.0 x.2 in (o.0, (x.0, x.1, o.1)))))

    -- so has `uproot`
    uproots : (name : ChannelName) (change : Name) → HasOutcome (answer.Uproots limits s entries name change)
    uproots name change = in_channel name _ (λ list e. in_store change _ (λ r.
        (let x = uproot_answered list (list_lawful s name list sound e) change in let o = as_uprooted (write.Uproot name change) x.0 x.2 in
        (o.0, (x.0, x.1, o.1)))))

    -- so has `graph`
    graphs : (name : ChannelName) → HasOutcome (answer.Graphs s name)
    graphs name = in_channel name _ (λ list e. (let g = graph_there list (list_lawful s name list sound e) in (gives (graph_text g.0), (g.0, g.1, refl))))

    -- so has `print`
    prints : (name : ChannelName) → HasOutcome (answer.Prints limits s name)
    prints name = in_channel name _ (λ list e. (
        let x = print_answered list (list_lawful s name list sound e) limits.live in
        let o = as_printed x.0 x.2 in
        (o.0, (x.0, x.1, o.1))))

-- ---- the table

-- each command but `inverse` has an outcome
pub outcome_there : (limits : Limits) (s : State) (journal : List Entry) → IsSound s → (c : Command) → IsPlainCall c → HasOutcome
    (answer.AnswersIn limits s journal c)
outcome_there limits s journal sound (command.Put text) call = puts limits s (length journal) text
outcome_there limits s journal sound (command.Get name) call = in_store limits s (length journal) name _ (λ r. (gives r.text, refl))
outcome_there limits s journal sound (command.Inverse name) call = absurd call
outcome_there limits s journal sound (command.New name) call = makes limits s (length journal) name (write.New name)
outcome_there limits s journal sound (command.Fork from to) call = in_channel limits s (length journal) from _
    (λ list e. makes limits s (length journal) to (write.Fork from to))
outcome_there limits s journal sound (command.Drop name) call = in_channel limits s (length journal) name _
    (λ list e. writes limits (length journal) Done (write.Drop name))
outcome_there limits s journal sound (command.Apply name change) call = applies limits s (length journal) sound name change
outcome_there limits s journal sound (command.Unrecord name change) call = unrecords limits s (length journal) sound name change
outcome_there limits s journal sound (command.Uproot name change) call = uproots limits s (length journal) sound name change
outcome_there limits s journal sound (command.Pull into from) call =
    in_channel limits s (length journal) into _
    (λ list e. in_channel limits s (length journal) from _ (λ other f. writes limits (length journal) Done (write.Pull into from)))
outcome_there limits s journal sound (command.Graph name) call = graphs limits s (length journal) sound name
outcome_there limits s journal sound (command.Print name) call = prints limits s (length journal) sound name
outcome_there limits s journal sound (command.Log name) call = in_channel limits s (length journal) name _
    (λ list e. (gives (log_text (map (λ r. r.name) list)), refl))
outcome_there limits s journal sound command.Channels call = (let counts = counts_there s in (gives (channels_text counts.0), (counts.0, counts.1, refl)))
outcome_there limits s journal sound command.Journal call = (gives (journal_text journal), refl)
outcome_there limits s journal sound command.Quit call = absurd call

-- `inverse` of a change that does not need itself has an outcome
pub inverse_outcome : (limits : Limits) (s : State) (journal : List Entry) (name : Name) → NeedsNotItself s name → HasOutcome
    (answer.AnswersIn limits s journal (command.Inverse name))
inverse_outcome limits s journal name not_itself = by (record_of s.store name) refl
  where
    of : (r : Record) →
        ((k : ℕ) × IsFirstWithoutInverse r k) ⊎ (((k : ℕ) → IsFirstWithoutInverse r k → ⊥) × ((v : Change) × IsInverse r v)) → HasOutcome
        (answer.InvertsChange r)
    of r (inl (k, first)) = (refuses (refusal.Inverse k), inl (k, first, refl))
    of r (inr (none, (v, is))) = (gives (spelling v), inr (none, v, is, refl))

    by : (found : Option Record) → record_of s.store name ≡ found →
        HasOutcome (λ outcome. MatchOption found (outcome ≡ refuses refusal.Change) (λ r. answer.InvertsChange r outcome))
    by None e = (refuses refusal.Change, refl)
    by (Some r) e = of r (inverse_or_first r (not_itself r e))
