-- Replies on a change or a channel alone.
use Rattle.std.proofs.Common.{◌≡◌, ℕ, List, map, length, refl, sym, ap, subst, inr, Ok, Err}
use Rattle.std.specs.Prelude.{Result, IfOk, MatchResult}
use Rattle.pj_name.specs.declared.name.Name.{Name}
use Rattle.pj_change.specs.declared.change.Change.{Change}
use Rattle.pj_change.specs.declared.change.Record.{Record}
use Rattle.pj_change.specs.declared.graph.Graph.{Graph}
use Rattle.pj_change.specs.declared.refusals.Applied.{Applied}
use Rattle.pj_change.specs.declared.refusals.Applied.TheVariants as of_apply
use Rattle.pj_change.specs.declared.refusals.ApplyRefusal.{ApplyRefusal}
use Rattle.pj_change.specs.declared.refusals.UnrecordRefusal.{UnrecordRefusal}
use Rattle.pj_change.specs.declared.refusals.UprootRefusal.{UprootRefusal}
use Rattle.pj_change.specs.declared.refusals.PrintRefusal.{PrintRefusal}
use Rattle.pj_change.specs.Apply.{IsApplyAnswer}
use Rattle.pj_change.specs.Graph.{IsGraph}
use Rattle.pj_change.specs.Inverse.{IsInverse, IsFirstWithoutInverse}
use Rattle.pj_change.specs.Parts.{spelling}
use Rattle.pj_change.specs.Printing.{IsPrintAnswer}
use Rattle.pj_change.specs.Unrecord.{IsUnrecordAnswer}
use Rattle.pj_change.specs.Uprooting.{IsUprootAnswer}
use Rattle.pj_machine.specs.declared.channel_name.ChannelName.{ChannelName}
use Rattle.pj_machine.specs.declared.command.Command.{Command}
use Rattle.pj_machine.specs.declared.command.Command.TheVariants as command
use Rattle.pj_machine.specs.declared.command.Write.TheVariants as write
use Rattle.pj_machine.specs.declared.reply.Numbered.{Numbered}
use Rattle.pj_machine.specs.declared.reply.Numbered.TheVariants.{At, NoMemory}
use Rattle.pj_machine.specs.declared.reply.Reply.{Reply}
use Rattle.pj_machine.specs.declared.reply.Reply.TheVariants.{Body}
use Rattle.pj_machine.specs.Answer.{AnswersIn, InStore, InvertsChange, AsPrinted, AsApplied, AsUnrecorded, AsUprooted}
use Rattle.pj_machine.specs.GraphText.{graph_text}
use Rattle.pj_machine.specs.Listings.{log_text}
use Rattle.pj_machine.specs.Outcome.{Outcome, says, gives}
use Rattle.pj_machine.specs.State.{State}
use Rattle.pj_state.specs.Installs.{Installs}
use Rattle.pj_state.specs.Kept.{Kept}
use Rattle.pj_state.specs.Replies.{Reads}
use Rattle.pj_state.specs.Shared.{IsAt, Stores, HasChannel}
use Rattle.pj_state.proofs.LookUps.{in_channel, in_store, reads_at}
use Rattle.pj_state.proofs.Setting.{sets_apply, sets_unrecord, sets_uproot}

-- what was asked for, where there was memory for it
pub gives_at : {E : Type 0} (k : Kept) (place : ℕ) (P : State → Type 0) → IsAt k place P → (x : Command) (body : Result (List ℕ) E) (Q : List ℕ → Type 0) → IfOk body Q →
    ((s : State) → P s → (b : List ℕ) → Q b → AnswersIn k.limits s k.journal x (gives b)) →
    (result : Numbered) → MatchResult body (λ b. result ≡ At place (Body b)) (λ e. result ≡ NoMemory) → Reads k x result
gives_at k place P at x (Ok b) Q q answer result e = reads_at k place P at x (Body b) (λ s p. answer s p b q) result e
gives_at k place P at x (Err m) Q q answer result e = subst (λ n. Reads k x n) (sym e) tt

module _ (k : Kept) (place : ℕ) (name : Name) (r : Record) (at : IsAt k place (Stores name r)) where
  pub get_reads : {E : Type 0} (body : Result (List ℕ) E) → IfOk body (λ b. b ≡ r.text) → (result : Numbered) → MatchResult body (λ b. result ≡ At place (Body b)) (λ e. result ≡ NoMemory) →
      Reads k (command.Get name) result
  get_reads body copy result e =
      gives_at k place (Stores name r) at (command.Get name) body (λ b. b ≡ r.text) copy (λ s p b q. in_store s name r (λ r o. o ≡ gives r.text) (gives b) p (ap gives q)) result e

  pub inverse_gives : {E : Type 0} (change : Change) → ((n : ℕ) → IsFirstWithoutInverse r n → ⊥) → IsInverse r change → (body : Result (List ℕ) E) → IfOk body (λ b. b ≡ spelling change) → (result : Numbered) →
      MatchResult body (λ b. result ≡ At place (Body b)) (λ e. result ≡ NoMemory) → Reads k (command.Inverse name) result
  inverse_gives change none inverse body is result e =
      gives_at k place (Stores name r) at (command.Inverse name) body (λ b. b ≡ spelling change) is (λ s p b q. in_store s name r InvertsChange (gives b) p (inr (none, change, inverse, ap gives q))) result e

  pub inverse_reads : (reply : Reply) → InvertsChange r (says reply) → (result : Numbered) → result ≡ At place reply → Reads k (command.Inverse name) result
  inverse_reads reply h result e = reads_at k place (Stores name r) at (command.Inverse name) reply (λ s p. in_store s name r InvertsChange (says reply) p h) result e

module _ (k : Kept) (place : ℕ) (name : ChannelName) (list : List Record) (at : IsAt k place (HasChannel name list)) where
  pub graph_reads : {E : Type 0} (body : Result (List ℕ) E) → IfOk body (λ b. (g : Graph) × IsGraph list g × (b ≡ graph_text g)) → (result : Numbered) →
      MatchResult body (λ b. result ≡ At place (Body b)) (λ e. result ≡ NoMemory) → Reads k (command.Graph name) result
  graph_reads body is result e =
      gives_at k place (HasChannel name list) at (command.Graph name) body (λ b. (g : Graph) × IsGraph list g × (b ≡ graph_text g)) is
      (λ s p b q. in_channel s name list (λ list o. (g : Graph) × IsGraph list g × (o ≡ gives (graph_text g))) (gives b) p (q.0, q.1, ap gives q.2)) result e

  pub log_reads : {E : Type 0} (body : Result (List ℕ) E) → IfOk body (λ b. b ≡ log_text (map (λ (r : Record). r.name) list)) → (result : Numbered) →
      MatchResult body (λ b. result ≡ At place (Body b)) (λ e. result ≡ NoMemory) → Reads k (command.Log name) result
  log_reads body is result e =
      gives_at k place (HasChannel name list) at (command.Log name) body (λ b. b ≡ log_text (map (λ (r : Record). r.name) list)) is
      (λ s p b q. in_channel s name list (λ list o. o ≡ gives (log_text (map (λ (r : Record). r.name) list))) (gives b) p (ap gives q)) result e

  pub print_reads : (answer : Result (List ℕ) PrintRefusal) → IsPrintAnswer list k.limits.live answer → (reply : Reply) → AsPrinted answer (says reply) →
      (result : Numbered) → result ≡ At place reply → Reads k (command.Print name) result
  print_reads answer is reply says_so result e =
      reads_at k place (HasChannel name list) at (command.Print name) reply
      (λ s p. in_channel s name list (λ list o. (answer : Result (List ℕ) PrintRefusal) × IsPrintAnswer list k.limits.live answer × AsPrinted answer o) (says reply) p
      (answer, is, says_so)) result e

-- ---- a channel and a change

module _ (k : Kept) (s : State) (name : ChannelName) (list : List Record) (change : Name) (r : Record) (there : HasChannel name list s) (stored : Stores change r s) where
  abbrev entries : ℕ
  entries = length k.journal

  pub applies : (answer : Result (Applied (List Record)) ApplyRefusal) → IsApplyAnswer list r answer → (o : Outcome) → AsApplied k.limits entries (write.Apply name change) answer o →
      AnswersIn k.limits s k.journal (command.Apply name change) o
  applies answer is o said =
      in_channel s name list (λ list o. InStore s change (λ r o. (answer : Result (Applied (List Record)) ApplyRefusal) × IsApplyAnswer list r answer × AsApplied k.limits entries (write.Apply name change) answer o) o) o there
      (in_store s change r (λ r o. (answer : Result (Applied (List Record)) ApplyRefusal) × IsApplyAnswer list r answer × AsApplied k.limits entries (write.Apply name change) answer o) o stored (answer, is, said))

  pub unrecords : (answer : Result (List Record) UnrecordRefusal) → IsUnrecordAnswer list change answer → (o : Outcome) → AsUnrecorded k.limits entries (write.Unrecord name change) answer o →
      AnswersIn k.limits s k.journal (command.Unrecord name change) o
  unrecords answer is o said =
      in_channel s name list (λ list o. InStore s change (λ r o. (answer : Result (List Record) UnrecordRefusal) × IsUnrecordAnswer list change answer × AsUnrecorded k.limits entries (write.Unrecord name change) answer o) o) o there
      (in_store s change r (λ r o. (answer : Result (List Record) UnrecordRefusal) × IsUnrecordAnswer list change answer × AsUnrecorded k.limits entries (write.Unrecord name change) answer o) o stored (answer, is, said))

  pub uproots : (answer : Result (List Record) UprootRefusal) → IsUprootAnswer list change answer → (o : Outcome) → AsUprooted k.limits entries (write.Uproot name change) answer o →
      AnswersIn k.limits s k.journal (command.Uproot name change) o
  uproots answer is o said =
      in_channel s name list (λ list o. InStore s change (λ r o. (answer : Result (List Record) UprootRefusal) × IsUprootAnswer list change answer × AsUprooted k.limits entries (write.Uproot name change) answer o) o) o there
      (in_store s change r (λ r o. (answer : Result (List Record) UprootRefusal) × IsUprootAnswer list change answer × AsUprooted k.limits entries (write.Uproot name change) answer o) o stored (answer, is, said))

  pub installs_applied : (after : List Record) → IsApplyAnswer list r (Ok (of_apply.New after)) → Installs k s (write.Apply name change) name after
  installs_applied after is = record {
    sets = sets_apply s name list there change r stored after ((is.new after).only refl).1;
    answers = λ o w. applies (Ok (of_apply.New after)) is o w;
  }

  pub installs_unrecorded : (after : List Record) → IsUnrecordAnswer list change (Ok after) → Installs k s (write.Unrecord name change) name after
  installs_unrecorded after is = record {
    sets = sets_unrecord s name list there change after ((is.out after).only refl).1;
    answers = λ o w. unrecords (Ok after) is o w;
  }

  pub installs_uprooted : (after : List Record) → IsUprootAnswer list change (Ok after) → Installs k s (write.Uproot name change) name after
  installs_uprooted after is = record {
    sets = sets_uproot s name list there change after ((is.out after).only refl).1;
    answers = λ o w. uproots (Ok after) is o w;
  }

-- a place at which both are there
both : (k : Kept) (place : ℕ) (P Q : State → Type 0) → IsAt k place P → IsAt k place Q → IsAt k place (λ s. P s × Q s)
both k place P Q at also = record { at = at.at; legal = at.legal; state = λ s r. (at.state s r, also.state s r) }

module _ (k : Kept) (place : ℕ) (name : ChannelName) (list : List Record) (change : Name) (r : Record) (at : IsAt k place (HasChannel name list)) (also : IsAt k place (Stores change r))
    (reply : Reply) (result : Numbered) (e : result ≡ At place reply) where
  abbrev Both : State → Type 0
  Both s = HasChannel name list s × Stores change r s

  pub apply_reads : (answer : Result (Applied (List Record)) ApplyRefusal) → IsApplyAnswer list r answer → AsApplied k.limits (length k.journal) (write.Apply name change) answer (says reply) →
      Reads k (command.Apply name change) result
  apply_reads answer is said =
      reads_at k place Both (both k place (HasChannel name list) (Stores change r) at also) (command.Apply name change) reply (λ s p. applies k s name list change r p.0 p.1 answer is (says reply) said) result e

  pub unrecord_reads : (answer : Result (List Record) UnrecordRefusal) → IsUnrecordAnswer list change answer → AsUnrecorded k.limits (length k.journal) (write.Unrecord name change) answer (says reply) →
      Reads k (command.Unrecord name change) result
  unrecord_reads answer is said =
      reads_at k place Both (both k place (HasChannel name list) (Stores change r) at also) (command.Unrecord name change) reply (λ s p. unrecords k s name list change r p.0 p.1 answer is (says reply) said) result e

  pub uproot_reads : (answer : Result (List Record) UprootRefusal) → IsUprootAnswer list change answer → AsUprooted k.limits (length k.journal) (write.Uproot name change) answer (says reply) →
      Reads k (command.Uproot name change) result
  uproot_reads answer is said =
      reads_at k place Both (both k place (HasChannel name list) (Stores change r) at also) (command.Uproot name change) reply (λ s p. uproots k s name list change r p.0 p.1 answer is (says reply) said) result e
