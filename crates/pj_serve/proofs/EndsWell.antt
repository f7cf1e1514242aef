-- What `one` and `run` do implies that they end well where nothing fails.
use Rattle.std.proofs.Common.{◌≡◌, ◌≢◌, ◌⊎◌, ℕ, ◌<◌, Bool, true, false, IsTrue, List, [], ◌∷◌, ◌++◌, length, get_or, All, Option, Some, None, String, Global, string_bytes, refl, sym, ◌∙◌, ap, subst, inl, inr, arith}
use Rattle.std.specs.Prelude.{is_ok, Result, Ok, Err}
use Rattle.pj_io.specs.Told.{Where}
use Rattle.pj_io.specs.Causes.{Rose, HasCause}
use Rattle.pj_io.specs.Sink.{AppendsFront, GivesAll}
use Rattle.pj_machine.specs.declared.journal.Entry.{Entry}
use Rattle.pj_machine.specs.declared.limits.Limits.{Limits}
use Rattle.pj_session.specs.declared.end.End.{End}
use Rattle.pj_session.specs.declared.end.End.TheVariants as ends
use Rattle.pj_session.specs.declared.end.Ended.{Ended}
use Rattle.pj_serve.specs.declared.finish.Finish.{Finish}
use Rattle.pj_serve.specs.declared.finish.Kept.{Kept}
use Rattle.pj_serve.specs.declared.opening.Opened.{Opened}
use Rattle.pj_serve.specs.declared.status.Status.{Status}
use Rattle.pj_serve.specs.declared.status.Status.TheVariants.{Done, Malformed, Words, ReadFault, WriteFault, Memory, Session, Journal, Store}
use Rattle.pj_serve.specs.Complete.{IsComplete, NoOfficeFault, HasNoFault}
use Rattle.pj_io.specs.Meanings.{Offices, Streams}
use Rattle.pj_serve.specs.Opening.{LacksPair, LacksOne, LacksRun, LacksDoors}
use Rattle.pj_serve.specs.Outside.{Outside}
use Rattle.pj_serve.specs.Served.{AreSessions}
use Rattle.pj_serve.specs.Sessions.{IsIdle, HasStopped, HasJournalOut, HaveRun, RanOne, RanScripts, EndsWell, DoesOne, DoesRun, WroteText}
use Rattle.pj_serve.specs.Status.{exit_status, first_end, status_after}
use Rattle.pj_serve.proofs.Complete.{IsGood, good_end, good_status}
use Rattle.pj_load.proofs.SeatRows.{element}
use Rattle.pj_serve.proofs.ShowLemmas.{exit_status_words}

pub rose_above : (before now : ℕ) → Rose before now → 0 < now
rose_above before now rose = grind (arith, rose)

-- a text that was written to a new sink
pub wrote_text : {S D T E : Type 0} (streams : Streams S D) (old new : D) (text : List ℕ) (r : Result T E) → streams.sinks.tells new ≡ streams.sinks.tells old
    → Where (streams.sinks.tells old) (streams.sinks.written old ≡ []) → streams.sinks.faults old ≡ 0
    → Where (streams.sinks.tells old) (GivesAll (streams.sinks.written old) (streams.sinks.written new) text r) → HasCause (streams.sinks.faults old) (streams.sinks.faults new) r → WroteText streams new text (is_ok r)
wrote_text streams old new text (Ok x) same empty zero bytes cause = λ h. let told = sym same ∙ h in bytes told ∙ ap (λ w. w ++ text) (empty told)
wrote_text streams old new text (Err e) same empty zero bytes cause =
    (rose_above _ _ cause.failed, λ h. let told = sym same ∙ h in subst (λ w. AppendsFront w (streams.sinks.written new) text) (empty told) (bytes told))

module _ {S D : Type 0} (streams : Streams S D) (limits : Limits) (journal : List Entry) (opened : List (Opened S D)) (kept : List (Kept S D)) (ends : List Ended) where
  -- the source tells, and its bytes are all requests
  abbrev pub IsWhole : Opened S D → Type 0
  IsWhole o = IsTrue (streams.sources.tells o.source) × IsComplete limits.session (streams.sources.left o.source)

  pub all_good : AreSessions streams limits journal opened kept ends → ((i : ℕ) (o : Opened S D) → i < length opened → IsWhole (get_or opened i o)) → All (HasNoFault streams) kept → All (λ e. IsGood e.end) ends
  all_good sessions whole none i e lt =
      let inside : i < length opened = (let m = sessions.as_many_ends in omega arith) in
      let o = element opened i inside in
      let k = element kept i (let m = sessions.as_many_kept in omega arith) in
      let served = (sessions.each i o.0 k.0 e inside).served in
      let fault = none i k.0 (let m = sessions.as_many_kept in omega arith) in
      let all = whole i o.0 inside in
      good_end limits.session (streams.sources.tells (get_or opened i o.0).source) (streams.sources.left (get_or opened i o.0).source) (streams.sources.left (get_or kept i k.0).source) all.0 all.1 _ (get_or ends i e).end served.session
      (λ is. let rose = rose_above _ _ (served.read_cause is) in let zero = fault.source in absurd (omega arith))
      (λ is. let rose = rose_above _ _ (served.write_cause is) in let zero = fault.sink in absurd (omega arith))
      served.store_cause

-- a status after sessions is not that of other words
pub after_command : (end : Option End) (whole : Bool) → status_after end whole ≢ Words
after_command None true e = cc
after_command None false e = cc
after_command (Some ends.Done) whole e = cc
after_command (Some ends.ReadFault) whole e = cc
after_command (Some ends.WriteFault) whole e = cc
after_command (Some ends.StoreFault) whole e = cc
after_command (Some ends.Memory) whole e = cc
after_command (Some ends.Bad) whole e = cc
after_command (Some ends.Cut) whole e = cc
after_command (Some ends.Spent) whole e = cc

-- memory was wanted, and nothing is handed back
pub wants_memory : {S D V : Type 0} (Lacks : List (Kept S D) → Option S → Status → Type 0) {result : Finish S D V} → result.status ≡ exit_status Memory → result.input ≡ None → result.out ≡ None →
    IsIdle result → (result.kept.items ≡ [] → result.input ≡ None → Lacks result.kept.items result.input Memory) → HasStopped Lacks result
wants_memory Lacks is input out idle lacks = record {
  ended = Memory;
  status = is;
  lacks = lacks idle.kept input;
  none = record { journal = idle.journal; ends = idle.ends; out = out; doors = idle.doors };
}

-- a call that stopped never says that its words are none, where that is no cause to stop
pub stopped_command : {S D V : Type 0} (Lacks : List (Kept S D) → Option S → Status → Type 0) (result : Finish S D V) →
    ((kept : List (Kept S D)) (input : Option S) → Lacks kept input Words → ⊥) → HasStopped Lacks result → result.status ≢ exit_status Words
stopped_command Lacks result never stopped e =
    never _ _ (subst (λ s. Lacks result.kept.items result.input s) (exit_status_words stopped.ended (sym stopped.status ∙ e)) stopped.lacks)

-- a call that stopped wanted memory, where there is no other cause
pub stopped_well : {S D V : Type 0} (Lacks : List (Kept S D) → Option S → Status → Type 0) (result : Finish S D V) →
    ((kept : List (Kept S D)) (input : Option S) (ended : Status) → Lacks kept input ended → ended ≡ Memory) → HasStopped Lacks result →
    (result.status ≡ exit_status Done) ⊎ (result.status ≡ exit_status Memory)
stopped_well Lacks result only stopped = inr (stopped.status ∙ ap exit_status (only _ _ stopped.ended stopped.lacks))

module _ {O S D : Type 0} (offices : Offices O) (streams : Streams S D) (old new : O) (none : NoOfficeFault offices old new) where
  -- where no count rose, only memory was wanted
  pub pair_memory : (bytes : List ℕ) (source : Option S) (ended : Status) → LacksPair offices streams old new bytes source ended → ended ≡ Memory
  pair_memory bytes source Done l = absurd l
  pair_memory bytes source Malformed l = absurd l
  pair_memory bytes source Words l = absurd l
  pair_memory bytes source ReadFault l = absurd (none.read l.1)
  pair_memory bytes source WriteFault l = absurd (none.write l.1)
  pair_memory bytes source Memory l = refl
  pair_memory bytes source Session l = absurd l
  pair_memory bytes source Journal l = absurd l
  pair_memory bytes source Store l = absurd l

  pub run_memory : {A : Type 0} (paths : List (String A)) (kept : List (Kept S D)) (input : Option S) (ended : Status) → LacksRun offices streams old new paths kept input ended → ended ≡ Memory
  run_memory paths kept input Done l = absurd l.2
  run_memory paths kept input Malformed l = absurd l.2
  run_memory paths kept input Words l = absurd l.2
  run_memory paths kept input ReadFault l = absurd (none.read l.2.3)
  run_memory paths kept input WriteFault l = absurd (none.write l.2.2)
  run_memory paths kept input Memory l = refl
  run_memory paths kept input Session l = absurd l.2
  run_memory paths kept input Journal l = absurd l.2
  run_memory paths kept input Store l = absurd l.2

  pub doors_memory : (kept : List (Kept S D)) (input : Option S) (ended : Status) → LacksDoors offices old new kept input ended → ended ≡ Memory
  doors_memory kept input Done l = absurd l
  doors_memory kept input Malformed l = absurd l
  doors_memory kept input Words l = absurd l
  doors_memory kept input ReadFault l = absurd (none.read l.2)
  doors_memory kept input WriteFault l = absurd l
  doors_memory kept input Memory l = refl
  doors_memory kept input Session l = absurd l
  doors_memory kept input Journal l = absurd l
  doors_memory kept input Store l = absurd l

module _ {O S D V : Type 0} (outside : Outside O S D V) (limits : Limits) (old new : O) (result : Finish S D V) where
  ran_command : (opened : List (Opened S D)) (whole : Bool) → HaveRun outside limits old new result opened whole → result.status ≢ exit_status Words
  ran_command opened whole ran e = after_command (first_end result.ends) whole (exit_status_words (status_after (first_end result.ends) whole) (sym ran.status ∙ e))

  -- `one` and `run` never say that their words are none
  pub one_command : DoesOne outside limits old new result → result.status ≢ exit_status Words
  one_command does = elim does.outcome [ inl ran ↦ ran_command _ true ran.ran | inr stopped ↦ stopped_command _ result (λ kept input l. l.1) stopped ]

  pub run_command : (paths : List (String Global)) → DoesRun outside limits old new result paths → result.status ≢ exit_status Words
  run_command paths does = elim does.outcome [ inl ran ↦ ran_command _ ran.whole ran.ran | inr stopped ↦ stopped_command _ result (λ kept input l. l.2) stopped ]

  ran_well : (opened : List (Opened S D)) → HaveRun outside limits old new result opened true → All (λ e. IsGood e.end) result.ends → (result.status ≡ exit_status Done) ⊎ (result.status ≡ exit_status Memory)
  ran_well opened ran good = elim (good_status result.ends good) [ inl done ↦ inl (ran.status ∙ ap exit_status done) | inr memory ↦ inr (ran.status ∙ ap exit_status memory) ]

  one_well : IsTrue (outside.offices.tells old) → RanOne outside limits old new result → EndsWell outside limits old new result (IsComplete limits.session (outside.offices.contents old).input)
  one_well told ran complete none fault out =
      let whole : (i : ℕ) (o : Opened S D) → i < 1 → IsWhole outside.streams limits result.journal (ran.opened ∷ []) result.kept.items result.ends (get_or (ran.opened ∷ []) i o) =
      λ i o lt. let first : i ≡ 0 = omega arith in
      subst (λ n. IsWhole outside.streams limits result.journal (ran.opened ∷ []) result.kept.items result.ends (get_or (ran.opened ∷ []) n o)) (sym first)
      (ran.is_opened.source.told told, subst (IsComplete limits.session) (sym (ran.is_opened.bytes_are told)) complete) in
      ran_well (ran.opened ∷ []) ran.ran (all_good outside.streams limits result.journal (ran.opened ∷ []) result.kept.items result.ends ran.ran.sessions whole fault)

  pub does_one : RanOne outside limits old new result ⊎ HasStopped (LacksOne outside.offices outside.streams old new) result → DoesOne outside limits old new result
  does_one outcome = record {
    outcome = outcome;
    ends_well = λ told complete none fault out. elim outcome [ inl ran ↦ one_well told ran complete none fault out | inr stopped ↦ stopped_well _ result (λ kept input ended l. pair_memory outside.offices outside.streams old new none (outside.offices.contents old).input input ended l.1) stopped ];
  }

  module _ (paths : List (String Global)) where
    scripts_whole : (opened : List (Opened S D)) → HaveRun outside limits old new result opened true → (ran : RanScripts outside limits old new result paths) → IsTrue (outside.offices.tells old)
        → All (λ path. IsComplete limits.session ((outside.offices.contents old).script (string_bytes path))) paths
        → (i : ℕ) (o : Opened S D) → i < length ran.opened → IsWhole outside.streams limits result.journal ran.opened result.kept.items result.ends (get_or ran.opened i o)
    scripts_whole opened have ran told complete i o lt =
        let inside : i < length paths = (let m = ran.are_opened.as_many in omega arith) in
        let p = element paths i inside in
        let script = ran.are_opened.each i p.0 o inside in
        (script.source.told told, subst (IsComplete limits.session) (sym (script.bytes_are told)) (complete i p.0 inside))

    scripts_well : (whole : Bool) (ran : RanScripts outside limits old new result paths) → ran.whole ≡ whole → IsTrue (outside.offices.tells old)
        → EndsWell outside limits old new result (All (λ path. IsComplete limits.session ((outside.offices.contents old).script (string_bytes path))) paths)
    scripts_well true ran is told complete none fault out =
        let have : HaveRun outside limits old new result ran.opened true = subst (λ b. HaveRun outside limits old new result ran.opened b) is ran.ran in
        ran_well ran.opened have (all_good outside.streams limits result.journal ran.opened result.kept.items result.ends have.sessions (scripts_whole ran.opened have ran told complete) fault)
    scripts_well false ran is told complete none fault out =
        let wrote = subst (λ b. HasJournalOut outside.streams result b) is ran.out in
        let rose = wrote.wrote.0 in
        let zero = out wrote.sink wrote.out in
        absurd (omega arith)

    pub does_run : RanScripts outside limits old new result paths ⊎ HasStopped (LacksRun outside.offices outside.streams old new paths) result → DoesRun outside limits old new result paths
    does_run outcome = record {
      outcome = outcome;
      ends_well = λ told complete none fault out. elim outcome [ inl ran ↦ scripts_well ran.whole ran refl told complete none fault out | inr stopped ↦ stopped_well _ result (λ kept input ended l. run_memory outside.offices outside.streams old new none paths kept input ended l) stopped ];
    }
