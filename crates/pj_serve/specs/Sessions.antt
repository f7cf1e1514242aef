-- What a call without sessions leaves, and what `one` and `run` do.
use Rattle.std.specs.Prelude.{◌≡◌, ◌⊎◌, ℕ, ◌<◌, Bool, true, false, List, [], ◌∷◌, All, Option, Some, None, string_bytes}
use Rattle.std.specs.declared.string.String.{String}
use Rattle.std.specs.declared.alloc.Global.{Global}
use Rattle.pj_io.specs.Told.{Where}
use Rattle.pj_io.specs.Sink.{AppendsFront}
use Rattle.pj_machine.specs.declared.limits.Limits.{Limits}
use Rattle.pj_machine.specs.JournalText.{journal_text}
use Rattle.pj_serve.specs.declared.status.Status.{Status}
use Rattle.pj_serve.specs.declared.status.Status.TheVariants.{Done, Memory}
use Rattle.pj_serve.specs.declared.finish.Finish.{Finish}
use Rattle.pj_serve.specs.declared.finish.Kept.{Kept}
use Rattle.pj_serve.specs.declared.opening.Opened.{Opened}
use Rattle.pj_serve.specs.Complete.{IsComplete, NoOfficeFault, HasNoFault}
use Rattle.pj_serve.specs.Opening.{IsInputAndOutput, AreScripts, LacksOne, LacksRun}
use Rattle.pj_io.specs.Meanings.{Streams}
use Rattle.pj_serve.specs.Outside.{Outside}
use Rattle.pj_serve.specs.Served.{AreSessions}
use Rattle.pj_serve.specs.Status.{exit_status, first_end, status_after}

-- no session ran
pub record IsIdle {S D V : Type 0} (result : Finish S D V) : Type 0 where
  pub journal : result.journal ≡ []
  pub ends : result.ends ≡ []
  pub kept : result.kept.items ≡ []
  pub doors : result.doors.items ≡ []

-- nothing that was opened is held
pub record HoldsNone {S D V : Type 0} (result : Finish S D V) : Type 0 where
  pub input : result.input ≡ None
  pub out : result.out ≡ None
  pub idle : IsIdle result

-- no session ran, and neither an output nor a door is handed back
pub record HasNoSession {S D V : Type 0} (result : Finish S D V) : Type 0 where
  pub journal : result.journal ≡ []
  pub ends : result.ends ≡ []
  pub out : result.out ≡ None
  pub doors : result.doors.items ≡ []

-- An opening failed, or memory was wanted before the first session. `Lacks` says by the status which it was, and of what is handed
-- back that it was opened before and is as it was opened: no session ran.
pub record HasStopped {S D V : Type 0} (Lacks : List (Kept S D) → Option S → Status → Type 0) (result : Finish S D V) : Type 0 where
  pub ended : Status
  pub status : result.status ≡ exit_status ended
  pub lacks : Lacks result.kept.items result.input ended
  pub none : HasNoSession result

-- What was written of a text to a sink that was new: all of it, or a front of it where the sink failed.
abbrev pub WroteText : {S D : Type 0} → Streams S D → D → List ℕ → Bool → Type 0
WroteText streams sink text true = Where (streams.sinks.tells sink) (streams.sinks.written sink ≡ text)
WroteText streams sink text false =
    (0 < streams.sinks.faults sink) × Where (streams.sinks.tells sink) (AppendsFront [] (streams.sinks.written sink) text)

-- the output, to which the journal was written once all sessions had ended
pub record HasJournalOut {S D V : Type 0} (streams : Streams S D) (result : Finish S D V) (whole : Bool) : Type 0 where
  pub sink : D
  pub out : result.out ≡ Some sink
  pub label : Where (streams.sinks.tells sink) (streams.sinks.label sink ≡ [])
  pub wrote : WroteText streams sink (journal_text result.journal) whole

module _ {O S D V : Type 0} (outside : Outside O S D V) (limits : Limits) (old new : O) (result : Finish S D V) where
  -- no opening failed, and these sessions ran; `whole` says whether all was written to the output
  pub record HaveRun (opened : List (Opened S D)) (whole : Bool) : Type 0 where
    pub sessions : AreSessions outside.streams limits result.journal opened result.kept.items result.ends
    pub status : result.status ≡ exit_status (status_after (first_end result.ends) whole)
    pub input : result.input ≡ None
    pub doors : result.doors.items ≡ []

  -- one session over the input and the output
  pub record RanOne : Type 0 where
    pub opened : Opened S D
    pub is_opened : IsInputAndOutput outside.offices outside.streams old opened
    pub ran : HaveRun (opened ∷ []) true
    pub out : result.out ≡ None

  -- a session over the script under each path, and then the journal on the output
  pub record RanScripts (paths : List (String Global)) : Type 0 where
    pub opened : List (Opened S D)
    pub are_opened : AreScripts outside.offices outside.streams old paths opened
    pub whole : Bool
    pub ran : HaveRun opened whole
    pub out : HasJournalOut outside.streams result whole

  -- where no count rose, and the bytes are all requests of a session, all was done, or memory was wanted
  abbrev pub EndsWell : Type 0 → Type 0
  EndsWell AllComplete =
      AllComplete → NoOfficeFault outside.offices old new → All (HasNoFault outside.streams) result.kept.items
      → ((sink : D) → result.out ≡ Some sink → outside.streams.sinks.faults sink ≡ 0)
      → (result.status ≡ exit_status Done) ⊎ (result.status ≡ exit_status Memory)

  -- what `one` does
  pub record DoesOne : Type 0 where
    pub outcome : RanOne ⊎ HasStopped (LacksOne outside.offices outside.streams old new) result
    pub ends_well : Where (outside.offices.tells old)
        (EndsWell (IsComplete limits.session (outside.offices.contents old).input))

  -- what `run` does with the scripts under these paths
  pub record DoesRun (paths : List (String Global)) : Type 0 where
    pub outcome : RanScripts paths ⊎ HasStopped (LacksRun outside.offices outside.streams old new paths) result
    pub ends_well : Where (outside.offices.tells old)
        (EndsWell (All (λ path. IsComplete limits.session ((outside.offices.contents old).script (string_bytes path))) paths))
