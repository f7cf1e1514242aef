-- What `show` does, from what its parts do.
use Rattle.std.proofs.Common.{◌≡◌, ◌≢◌, ◌⊎◌, ℕ, ◌<◌, IsTrue, List, [], Option, Some, None, refl, sym, ◌∙◌, ap, subst, inl, inr, arith}
use Rattle.pj_io.specs.Told.{Where}
use Rattle.pj_io.specs.Causes.{Rose}
use Rattle.pj_serve.specs.declared.finish.Finish.{Finish}
use Rattle.pj_serve.specs.declared.status.Status.{Status}
use Rattle.pj_serve.specs.declared.status.Status.TheVariants.{Done, Malformed, Words, ReadFault, WriteFault, Memory, Session, Journal, Store}
use Rattle.pj_serve.specs.Status.{exit_status}
use Rattle.pj_io.specs.Meanings.{Offices, Streams}
use Rattle.pj_serve.specs.Show.{Judged, Wrote, Showed, Ran, Shows}
use Rattle.pj_serve.specs.Opening.{OpeningFailed}
use Rattle.pj_serve.specs.Complete.{NoOfficeFault}
use Rattle.pj_serve.specs.Promises.{HasShown}
use Rattle.pj_serve.specs.Sessions.{IsIdle}

-- a count that rose from 0 is above it
pub rose_from_zero : (before now : ℕ) → before ≡ 0 → Rose before now → 0 < now
rose_from_zero before now zero rose = grind (arith, zero, rose)

-- only the cause of a failing sink asks whether its count rose
Wrote-rises : (Rises Rises' : Type 0) (text before after : List ℕ) (status : Status) → (Rises → Rises') →
    Wrote Rises text before after status → Wrote Rises' text before after status
Wrote-rises Rises Rises' text before after Done f w = w
Wrote-rises Rises Rises' text before after WriteFault f w = w
Wrote-rises Rises Rises' text before after Malformed f w = elim w [ inl e ↦ inl e | inr p ↦ inr (f p.0, p.1) ]
Wrote-rises Rises Rises' text before after Memory f w = w
Wrote-rises Rises Rises' text before after ReadFault f w = w
Wrote-rises Rises Rises' text before after Words f w = w
Wrote-rises Rises Rises' text before after Session f w = w
Wrote-rises Rises Rises' text before after Journal f w = w
Wrote-rises Rises Rises' text before after Store f w = w

-- an opening that failed is not other words
pub failed_command : (fault status : Status) (Rises : Type 0) → fault ≢ Words → OpeningFailed fault Rises status → status ≢ Words
failed_command fault status Rises other u e = elim u [ inl p ↦ other (sym p.0 ∙ e) | inr m ↦ let h : Memory ≡ Words = sym m ∙ e in cc ]

module _ {O S D : Type 0} (offices : Offices O) (streams : Streams S D) (old new : O) where
  -- a run over a new source and a new sink
  pub ran : (source source' : S) (sink sink' : D) (status : Status) →
      Where (offices.tells old) (IsTrue (streams.sources.tells source)) →
      Where (offices.tells old) (streams.sources.left source ≡ (offices.contents old).input) →
      streams.sources.faults source ≡ 0 →
      Where (streams.sinks.tells sink) (streams.sinks.written sink ≡ []) →
      streams.sinks.faults sink ≡ 0 →
      streams.sinks.tells sink' ≡ streams.sinks.tells sink →
      Where (streams.sinks.tells sink) (streams.sinks.label sink ≡ []) →
      Where (streams.sinks.tells sink) (streams.sinks.label sink' ≡ streams.sinks.label sink) →
      (status ≡ ReadFault → Rose (streams.sources.faults source) (streams.sources.faults source')) →
      (status ≡ WriteFault → Rose (streams.sinks.faults sink) (streams.sinks.faults sink')) →
      Showed (streams.sources.tells source) (streams.sources.left source) (streams.sources.left source')
      (λ text. Where (streams.sinks.tells sink) (Wrote (Rose (streams.sinks.faults sink) (streams.sinks.faults sink')) text (streams.sinks.written sink) (streams.sinks.written sink') status)) status →
      Ran offices streams old new source' sink' status
  ran source source' sink sink' status tells bytes no_read empty no_write same no_label same_label read write showed = record {
    read_fault = λ e. rose_from_zero _ _ no_read (read e);
    write_fault = λ e. rose_from_zero _ _ no_write (write e);
    label = λ h. let told : IsTrue (streams.sinks.tells sink) = sym same ∙ h in same_label told ∙ no_label told;
    showed = record {
      text = showed.text;
      few = showed.few;
      taken = λ h. sym (bytes h) ∙ showed.taken (tells h);
      read = λ h. showed.read (tells h);
      judged = showed.judged;
      written = λ sink_tells. let sink_told : IsTrue (streams.sinks.tells sink) = sym same ∙ sink_tells in
          let P : List ℕ → Type 0 = λ before. Wrote (0 < streams.sinks.faults sink') showed.text before (streams.sinks.written sink') status in
          subst P (empty sink_told) (Wrote-rises _ _ _ _ _ status (rose_from_zero _ _ no_write) (showed.written sink_told));
    };
  }

  -- both were opened
  pub shows_opened : (input : Option S) (out : Option D) (source : S) (sink : D) (status : Status) →
      input ≡ Some source → out ≡ Some sink → Ran offices streams old new source sink status → Shows offices streams old new input out status
  shows_opened input out source sink status input_is out_is r =
      let P : Option D → Type 0 = λ o. Shows offices streams old new (Some source) o status in
      let Q : Option S → Type 0 = λ i. Shows offices streams old new i out status in
      subst Q (sym input_is) (subst P (sym out_is) r)

  -- the input could not be opened
  pub shows_neither : (input : Option S) (out : Option D) (status : Status) → input ≡ None → out ≡ None → Shows offices streams old new None None status → Shows offices streams old new input out status
  shows_neither input out status input_is out_is s =
      let P : Option D → Type 0 = λ o. Shows offices streams old new None o status in
      let Q : Option S → Type 0 = λ i. Shows offices streams old new i out status in
      subst Q (sym input_is) (subst P (sym out_is) s)

  -- the output could not be opened; the input was before
  pub shows_source : (mid : O) (input : Option S) (out : Option D) (source : S) (status : Status) → input ≡ Some source → out ≡ None → offices.write_faults mid ≡ offices.write_faults old →
      OpeningFailed WriteFault (Rose (offices.write_faults mid) (offices.write_faults new)) status → Where (offices.tells old) (streams.sources.left source ≡ (offices.contents old).input) →
      Shows offices streams old new input out status
  shows_source mid input out source status input_is out_is same why bytes =
      let P : Option D → Type 0 = λ o. Shows offices streams old new (Some source) o status in
      let Q : Option S → Type 0 = λ i. Shows offices streams old new i out status in
      subst Q (sym input_is) (subst P (sym out_is) (subst (λ n. OpeningFailed WriteFault (Rose n (offices.write_faults new)) status) same why, bytes))

  judged_command : (text : List ℕ) (status : Status) → Judged text status → status ≢ Words
  judged_command text status j e = subst (λ s. Judged text s) e j

  -- `show` never says that its words are none
  pub shows_command : (input : Option S) (out : Option D) (status : Status) → Shows offices streams old new input out status → status ≢ Words
  shows_command None None status s = failed_command ReadFault status _ (λ e. cc) s.0
  shows_command None (Some sink) status s = absurd s
  shows_command (Some source) None status s = failed_command WriteFault status _ (λ e. cc) s.0
  shows_command (Some source) (Some sink) status s = judged_command s.showed.text status s.showed.judged

  ran_well : (source : S) (sink : D) (status : Status) → Ran offices streams old new source sink status → streams.sources.faults source ≡ 0 → streams.sinks.faults sink ≡ 0
      → (status ≡ Done) ⊎ ((status ≡ Malformed) ⊎ (status ≡ Memory))
  ran_well source sink Done r read write = inl refl
  ran_well source sink Malformed r read write = inr (inl refl)
  ran_well source sink Memory r read write = inr (inr refl)
  ran_well source sink ReadFault r read write = absurd (let rose = r.read_fault refl in omega (arith, rose, read))
  ran_well source sink WriteFault r read write = absurd (let rose = r.write_fault refl in omega (arith, rose, write))
  ran_well source sink Words r read write = absurd r.showed.judged
  ran_well source sink Session r read write = absurd r.showed.judged
  ran_well source sink Journal r read write = absurd r.showed.judged
  ran_well source sink Store r read write = absurd r.showed.judged

  shows_well : (input : Option S) (out : Option D) (status : Status) → Shows offices streams old new input out status → NoOfficeFault offices old new
      → ((source : S) → input ≡ Some source → streams.sources.faults source ≡ 0) → ((sink : D) → out ≡ Some sink → streams.sinks.faults sink ≡ 0)
      → (status ≡ Done) ⊎ ((status ≡ Malformed) ⊎ (status ≡ Memory))
  shows_well None None status s none read write = elim s.0 [ inl fault ↦ absurd (none.read fault.1) | inr memory ↦ inr (inr memory) ]
  shows_well None (Some sink) status s none read write = absurd s
  shows_well (Some source) None status s none read write = elim s.0 [ inl fault ↦ absurd (none.write fault.1) | inr memory ↦ inr (inr memory) ]
  shows_well (Some source) (Some sink) status s none read write = ran_well source sink status s (read source refl) (write sink refl)

  -- what `show` hands back says all that is promised of it
  pub has_shown : {V : Type 0} (result : Finish S D V) (ended : Status) → result.status ≡ exit_status ended → Shows offices streams old new result.input result.out ended → IsIdle result →
      HasShown offices streams old new result
  has_shown result ended is shows idle = record {
    ended = ended;
    status = is;
    shows = shows;
    idle = idle;
    ends_well = λ none read write. elim (shows_well result.input result.out ended shows none read write) [
      | inl done ↦ inl (is ∙ ap exit_status done)
      | inr other ↦ elim other [ inl malformed ↦ inr (inl (is ∙ ap exit_status malformed)) | inr memory ↦ inr (inr (is ∙ ap exit_status memory)) ]
    ];
  }

-- only for words that are no command
pub exit_status_words : (status : Status) → exit_status status ≡ exit_status Words → status ≡ Words
exit_status_words Done e = cc
exit_status_words Malformed e = cc
exit_status_words Words e = cc
exit_status_words ReadFault e = cc
exit_status_words WriteFault e = cc
exit_status_words Memory e = cc
exit_status_words Session e = cc
exit_status_words Journal e = cc
exit_status_words Store e = cc

pub some_is_not_none : {X : Type 0} (x : X) → ◌≡◌ {A = Option X} (Some x) None → ⊥
some_is_not_none x e = cc
