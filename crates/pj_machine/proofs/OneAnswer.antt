-- A command has at most one answer.
use Rattle.std.proofs.Common.{◌≡◌, ℕ, List, refl, sym, ◌∙◌, ap, subst, inl, inr, Ok, Err}
use Rattle.std.specs.Prelude.{length, map, Option, Result}
use Rattle.std.specs.Cmp.{on_total}
use Rattle.std.specs.Ordering.{on}
use Rattle.pj_name.specs.declared.name.Name.{Name}
use Rattle.pj_change.specs.declared.change.Record.{Record}
use Rattle.pj_change.specs.declared.graph.Graph.{Graph}
use Rattle.pj_change.specs.declared.refusals.Applied.{Applied}
use Rattle.pj_change.specs.declared.refusals.Applied.TheVariants as applied
use Rattle.pj_change.specs.declared.refusals.ApplyRefusal.{ApplyRefusal}
use Rattle.pj_change.specs.declared.refusals.ApplyRefusal.TheVariants as apply
use Rattle.pj_change.specs.declared.refusals.UnrecordRefusal.{UnrecordRefusal}
use Rattle.pj_change.specs.declared.refusals.UnrecordRefusal.TheVariants as unrecord
use Rattle.pj_change.specs.declared.refusals.UprootRefusal.{UprootRefusal}
use Rattle.pj_change.specs.declared.refusals.UprootRefusal.TheVariants as uproot
use Rattle.pj_change.specs.declared.refusals.PrintRefusal.{PrintRefusal}
use Rattle.pj_change.specs.declared.refusals.PrintRefusal.TheVariants as print
use Rattle.pj_change.specs.Apply.{IsApplyAnswer}
use Rattle.pj_change.specs.Graph.{IsGraph}
use Rattle.pj_change.specs.Lawful.{record_of}
use Rattle.pj_change.specs.Parts.{spelling}
use Rattle.pj_change.specs.Printing.{IsPrintAnswer}
use Rattle.pj_change.specs.Unrecord.{IsUnrecordAnswer}
use Rattle.pj_change.specs.Uprooting.{IsUprootAnswer}
use Rattle.pj_change.proofs.Listings.{one_list}
use Rattle.pj_change.proofs.OneGraph.{one_graph}
use Rattle.pj_change.proofs.SameSets.{itself}
use Rattle.pj_machine.specs.declared.channel_name.ChannelName.{ChannelName}
use Rattle.pj_machine.specs.declared.command.Command.{Command}
use Rattle.pj_machine.specs.declared.command.Command.TheVariants as command
use Rattle.pj_machine.specs.declared.command.Write.{Write}
use Rattle.pj_machine.specs.declared.command.Write.TheVariants as write
use Rattle.pj_machine.specs.declared.journal.Entry.{Entry}
use Rattle.pj_machine.specs.declared.limits.Limits.{Limits}
use Rattle.pj_machine.specs.declared.listings.ChannelCount.{ChannelCount}
use Rattle.pj_machine.specs.declared.reply.Reply.{Reply}
use Rattle.pj_machine.specs.declared.reply.Reply.TheVariants.{Done, Named}
use Rattle.pj_machine.specs.declared.reply.Refusal.TheVariants as refusal
use Rattle.pj_machine.specs.Answer
use Rattle.pj_machine.specs.ChannelName.{channel_cmp, channel_total}
use Rattle.pj_machine.specs.GraphText.{graph_text}
use Rattle.pj_machine.specs.Listings.{channels_text, log_text}
use Rattle.pj_machine.specs.JournalText.{journal_text}
use Rattle.pj_machine.specs.Outcome.{Outcome, refuses, gives, enters}
use Rattle.pj_machine.specs.State.{State, list_of}
use Rattle.pj_machine.proofs.OneInverse.{first_one, inverse_one}
use Rattle.pj_machine.proofs.OneRecord.{record_of_text}
use Rattle.pj_machine.proofs.Outcomes.{AtMostOne, exactly, unless_one, found_one, comes_one, result_one}
use Rattle.pj_machine.proofs.Replays.{replay_one}

-- ---- what channels answer

apply_one : (list : List Record) (r : Record) (x y : Result (Applied (List Record)) ApplyRefusal) → IsApplyAnswer list r x → IsApplyAnswer list r y →
    (x ≡ Err apply.Memory → ⊥) → (y ≡ Err apply.Memory → ⊥) → x ≡ y
apply_one list r (Ok applied.Already) y a b m n = comes_one apply.Memory _ y _ a.already b.already n refl
apply_one list r (Ok (applied.New after)) y a b m n = comes_one apply.Memory _ y _ (a.new after) (b.new after) n refl
apply_one list r (Err (apply.Needs name)) y a b m n = comes_one apply.Memory _ y _ (a.needs name) (b.needs name) n refl
apply_one list r (Err (apply.Context k)) y a b m n = comes_one apply.Memory _ y _ (a.context k) (b.context k) n refl
apply_one list r (Err apply.Memory) y a b m n = absurd (m refl)

unrecord_one : (list : List Record) (name : Name) (x y : Result (List Record) UnrecordRefusal) → IsUnrecordAnswer list name x → IsUnrecordAnswer list name y →
    (x ≡ Err unrecord.Memory → ⊥) → (y ≡ Err unrecord.Memory → ⊥) → x ≡ y
unrecord_one list name (Ok after) y a b m n = comes_one unrecord.Memory _ y _ (a.out after) (b.out after) n refl
unrecord_one list name (Err unrecord.Absent) y a b m n = comes_one unrecord.Memory _ y _ a.absent b.absent n refl
unrecord_one list name (Err (unrecord.Held holder)) y a b m n = comes_one unrecord.Memory _ y _ (a.held holder) (b.held holder) n refl
unrecord_one list name (Err unrecord.Memory) y a b m n = absurd (m refl)

uproot_one : (list : List Record) (name : Name) (x y : Result (List Record) UprootRefusal) → IsUprootAnswer list name x → IsUprootAnswer list name y →
    (x ≡ Err uproot.Memory → ⊥) → (y ≡ Err uproot.Memory → ⊥) → x ≡ y
uproot_one list name (Ok after) y a b m n = comes_one uproot.Memory _ y _ (a.out after) (b.out after) n refl
uproot_one list name (Err uproot.Absent) y a b m n = comes_one uproot.Memory _ y _ a.absent b.absent n refl
uproot_one list name (Err uproot.Memory) y a b m n = absurd (m refl)

print_one : (list : List Record) (limit : ℕ) (x y : Result (List ℕ) PrintRefusal) → IsPrintAnswer list limit x → IsPrintAnswer list limit y →
    (x ≡ Err print.Memory → ⊥) → (y ≡ Err print.Memory → ⊥) → x ≡ y
print_one list limit (Ok bytes) y a b m n = comes_one print.Memory _ y _ (a.print bytes) (b.print bytes) n refl
print_one list limit (Err (print.Wide inode)) y a b m n = comes_one print.Memory _ y _ (a.wide inode) (b.wide inode) n refl
print_one list limit (Err print.Memory) y a b m n = absurd (m refl)

-- ---- writes

module _ (limits : Limits) (entries : ℕ) where
  writes_one : (reply : Reply) (w : Write) → AtMostOne (Answer.Writes limits entries reply w)
  writes_one reply w = unless_one _ _ _ (exactly (enters reply w))

  applied_one : (w : Write) (x : Result (Applied (List Record)) ApplyRefusal) → AtMostOne (Answer.AsApplied limits entries w x)
  applied_one w (Ok applied.Already) = exactly _
  applied_one w (Ok (applied.New after)) = writes_one Done w
  applied_one w (Err (apply.Needs name)) = exactly _
  applied_one w (Err (apply.Context k)) = exactly _
  applied_one w (Err apply.Memory) = λ o p a b. absurd a

  unrecorded_one : (w : Write) (x : Result (List Record) UnrecordRefusal) → AtMostOne (Answer.AsUnrecorded limits entries w x)
  unrecorded_one w (Ok after) = writes_one Done w
  unrecorded_one w (Err unrecord.Absent) = exactly _
  unrecorded_one w (Err (unrecord.Held holder)) = exactly _
  unrecorded_one w (Err unrecord.Memory) = λ o p a b. absurd a

  uprooted_one : (w : Write) (x : Result (List Record) UprootRefusal) → AtMostOne (Answer.AsUprooted limits entries w x)
  uprooted_one w (Ok after) = writes_one Done w
  uprooted_one w (Err uproot.Absent) = exactly _
  uprooted_one w (Err uproot.Memory) = λ o p a b. absurd a

printed_one : (x : Result (List ℕ) PrintRefusal) → AtMostOne (Answer.AsPrinted x)
printed_one (Ok bytes) = exactly _
printed_one (Err (print.Wide inode)) = exactly _
printed_one (Err print.Memory) = λ o p a b. absurd a

-- ---- texts

spelled : (text : List ℕ) (r : Record) → Answer.IsMalformed text → r.text ≡ text → ⊥
spelled text r none e = none r.change (sym e ∙ r.spelled)

module _ (limits : Limits) (s : State) (entries : ℕ) where
  puts_change_one : (r : Record) → AtMostOne (Answer.PutsChange limits s entries r)
  puts_change_one r = unless_one _ _ _ (unless_one _ _ _ (unless_one _ _ _ (writes_one limits entries (Named r.name) (write.Put r))))

  puts_one : (text : List ℕ) → AtMostOne (Answer.Puts limits s entries text)
  puts_one text o p (inl a) (inl b) = a.1 ∙ sym b.1
  puts_one text o p (inl a) (inr b) = absurd (spelled text b.0 a.0 b.1)
  puts_one text o p (inr a) (inl b) = absurd (spelled text a.0 b.0 a.1)
  puts_one text o p (inr a) (inr b) =
      let same = record_of_text a.0 b.0 (a.1 ∙ sym b.1) in
      puts_change_one b.0 o p (subst (λ r. Answer.PutsChange limits s entries r o) same a.2) b.2

  makes_one : (name : ChannelName) (w : Write) → AtMostOne (Answer.Makes limits s entries name w)
  makes_one name w = unless_one _ _ _ (unless_one _ _ _ (writes_one limits entries Done w))

-- ---- reads

inverted_one : (r : Record) → AtMostOne (Answer.InvertsChange r)
inverted_one r o p (inl a) (inl b) = a.2 ∙ ap (λ k. refuses (refusal.Inverse k)) (first_one r a.0 b.0 a.1 b.1) ∙ sym b.2
inverted_one r o p (inl a) (inr b) = absurd (b.0 a.0 a.1)
inverted_one r o p (inr a) (inl b) = absurd (a.0 b.0 b.1)
inverted_one r o p (inr a) (inr b) = a.3 ∙ ap (λ change. gives (spelling change)) (inverse_one r a.1 b.1 a.2 b.2) ∙ sym b.3

graphs_one : (list : List Record) → AtMostOne (λ o. (g : Graph) × IsGraph list g × (o ≡ gives (graph_text g)))
graphs_one list o p a b = a.2 ∙ ap (λ g. gives (graph_text g)) (one_graph list list a.0 b.0 (itself list) a.1 b.1) ∙ sym b.2

abbrev counted : ChannelCount → ChannelName
counted c = c.name

channels_one : (s : State) → AtMostOne (Answer.ListsChannels s)
channels_one s o p a b =
    let same : a.0 ≡ b.0 = one_list (on counted channel_cmp) (on_total counted channel_total) (Answer.IsCount s) (Answer.IsCount s) (λ c h. h) (λ c h. h) a.0 b.0 a.1 b.1 in
    a.2 ∙ ap (λ counts. gives (channels_text counts)) same ∙ sym b.2

-- ---- the table

module _ (s : State) where
  in_channel_one : (name : ChannelName) (rest : List Record → Outcome → Type 0) → ((list : List Record) → AtMostOne (rest list)) → AtMostOne (Answer.InChannel s name rest)
  in_channel_one name rest one = found_one (list_of s name) (refuses refusal.Channel) rest one

  in_store_one : (change : Name) (rest : Record → Outcome → Type 0) → ((r : Record) → AtMostOne (rest r)) → AtMostOne (Answer.InStore s change rest)
  in_store_one change rest one = found_one (record_of s.store change) (refuses refusal.Change) rest one

-- what is looked up for a change of a channel, and what its list answers
change_one : {T E : Type 0} (s : State) (name : ChannelName) (change : Name) (memory : E) (Is : List Record → Record → Result T E → Type 0) (As : Result T E → Outcome → Type 0) →
    ((list : List Record) (r : Record) (x y : Result T E) → Is list r x → Is list r y → (x ≡ Err memory → ⊥) → (y ≡ Err memory → ⊥) → x ≡ y) →
    ((o : Outcome) → As (Err memory) o → ⊥) → ((x : Result T E) → AtMostOne (As x)) →
    AtMostOne (Answer.InChannel s name (λ list. Answer.InStore s change (λ r o. (x : Result T E) × Is list r x × As x o)))
change_one s name change memory Is As one none each =
    in_channel_one s name (λ list. Answer.InStore s change (λ r o. (x : Result _ _) × Is list r x × As x o)) (λ list.
    in_store_one s change (λ r o. (x : Result _ _) × Is list r x × As x o) (λ r. result_one memory (Is list r) As (one list r) none each))

answers_one : (limits : Limits) (s : State) (journal : List Entry) (x : Command) → AtMostOne (Answer.AnswersIn limits s journal x)
answers_one limits s journal (command.Put text) = puts_one limits s (length journal) text
answers_one limits s journal (command.Get name) = in_store_one s name (λ r o. o ≡ gives r.text) (λ r. exactly (gives r.text))
answers_one limits s journal (command.Inverse name) = in_store_one s name (λ r. Answer.InvertsChange r) inverted_one
answers_one limits s journal (command.New name) = makes_one limits s (length journal) name (write.New name)
answers_one limits s journal (command.Fork from to) =
    in_channel_one s from (λ list. Answer.Makes limits s (length journal) to (write.Fork from to)) (λ list. makes_one limits s (length journal) to (write.Fork from to))
answers_one limits s journal (command.Drop name) =
    in_channel_one s name (λ list. Answer.Writes limits (length journal) Done (write.Drop name)) (λ list. writes_one limits (length journal) Done (write.Drop name))
answers_one limits s journal (command.Apply name change) =
    change_one s name change apply.Memory IsApplyAnswer (Answer.AsApplied limits (length journal) (write.Apply name change)) apply_one (λ o a. a)
    (applied_one limits (length journal) (write.Apply name change))
answers_one limits s journal (command.Unrecord name change) =
    change_one s name change unrecord.Memory (λ list r. IsUnrecordAnswer list change) (Answer.AsUnrecorded limits (length journal) (write.Unrecord name change))
    (λ list r. unrecord_one list change) (λ o a. a) (unrecorded_one limits (length journal) (write.Unrecord name change))
answers_one limits s journal (command.Uproot name change) =
    change_one s name change uproot.Memory (λ list r. IsUprootAnswer list change) (Answer.AsUprooted limits (length journal) (write.Uproot name change))
    (λ list r. uproot_one list change) (λ o a. a) (uprooted_one limits (length journal) (write.Uproot name change))
answers_one limits s journal (command.Pull into from) =
    in_channel_one s into (λ list. Answer.InChannel s from (λ other. Answer.Writes limits (length journal) Done (write.Pull into from))) (λ list.
    in_channel_one s from (λ other. Answer.Writes limits (length journal) Done (write.Pull into from)) (λ other. writes_one limits (length journal) Done (write.Pull into from)))
answers_one limits s journal (command.Graph name) =
    in_channel_one s name (λ list o. (g : Graph) × IsGraph list g × (o ≡ gives (graph_text g))) graphs_one
answers_one limits s journal (command.Print name) =
    in_channel_one s name (λ list o. (result : Result (List ℕ) PrintRefusal) × IsPrintAnswer list limits.live result × Answer.AsPrinted result o) (λ list.
    result_one print.Memory (IsPrintAnswer list limits.live) Answer.AsPrinted (print_one list limits.live) (λ o a. a) printed_one)
answers_one limits s journal (command.Log name) =
    in_channel_one s name (λ list o. o ≡ gives (log_text (map (λ r. r.name) list))) (λ list. exactly (gives (log_text (map (λ r. r.name) list))))
answers_one limits s journal command.Channels = channels_one s
answers_one limits s journal command.Journal = exactly (gives (journal_text journal))
answers_one limits s journal command.Quit = λ o p a b. absurd a

pub answer_one : (limits : Limits) (journal : List Entry) (x : Command) (reply other : Reply) (entered also : Option Write) →
    Answer.IsAnswer limits journal x reply entered → Answer.IsAnswer limits journal x other also → (reply ≡ other) × (entered ≡ also)
answer_one limits journal x reply other entered also a b =
    let same = replay_one journal a.state b.state a.replayed b.replayed in
    let there = subst (λ s. Answer.AnswersIn limits s journal x (record { reply = reply; entered = entered })) same a.answers in
    let one = answers_one limits b.state journal x (record { reply = reply; entered = entered }) (record { reply = other; entered = also }) there b.answers in
    (ap (λ (o : Outcome). o.reply) one, ap (λ (o : Outcome). o.entered) one)
