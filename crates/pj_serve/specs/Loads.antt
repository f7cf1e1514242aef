-- What `load` does.
use Rattle.std.specs.Prelude.{◌≡◌, ◌⊎◌, ℕ, ◌<◌, Bool, List, [], Option, Some, None}
use Rattle.pj_io.specs.Told.{Where}
use Rattle.pj_io.specs.Causes.{Rose}
use Rattle.pj_io.specs.Sink.{AppendsFront}
use Rattle.pj_machine.specs.declared.limits.Limits.{Limits}
use Rattle.pj_load.specs.Load.{IsLargeRun}
use Rattle.pj_serve.specs.declared.status.Status.{Status}
use Rattle.pj_serve.specs.declared.status.Status.TheVariants.{Done, WriteFault, Memory}
use Rattle.pj_serve.specs.declared.finish.Finish.{Finish}
use Rattle.pj_serve.specs.Complete.{NoOfficeFault}
use Rattle.pj_serve.specs.Full.{AreFull}
use Rattle.pj_serve.specs.Opening.{OpeningFailed}
use Rattle.pj_io.specs.Meanings.{Offices}
use Rattle.pj_serve.specs.Outside.{Outside}
use Rattle.pj_serve.specs.Sessions.{IsIdle, HoldsNone}
use Rattle.pj_serve.specs.Status.{exit_status}

-- the output could not be opened
pub record LacksOutput {O S D V : Type 0} (offices : Offices O) (old new : O) (result : Finish S D V) : Type 0 where
  pub ended : Status
  pub status : result.status ≡ exit_status ended
  pub cause : OpeningFailed WriteFault (Rose (offices.write_faults old) (offices.write_faults new)) ended
  pub holds : HoldsNone result

-- What the summary says of the status, and of what was written to a sink that was new: all of it, or a front of it where the sink
-- failed. Where there is no summary the status is that of want of memory, and nothing was written.
abbrev pub WroteSummary : Bool → List ℕ → ℕ → Option (List ℕ) → Status → Type 0
WroteSummary tells written faults (Some summary) Done = Where tells (written ≡ summary)
WroteSummary tells written faults (Some summary) WriteFault = (0 < faults) × Where tells (AppendsFront [] written summary)
WroteSummary tells written faults (Some summary) other = ⊥
WroteSummary tells written faults None Memory = Where tells (written ≡ [])
WroteSummary tells written faults None other = ⊥

module _ {O S D V : Type 0} (outside : Outside O S D V) (old new : O) (result : Finish S D V) (number changes sessions : ℕ) where
  -- the large run at the limits of the program has this journal, these ends and this summary
  pub record RanLarge (summary : Option (List ℕ)) : Type 0 where
    pub limits : Limits
    pub full : AreFull limits
    pub run : IsLargeRun limits number changes sessions (record { journal = result.journal; ends = result.ends; summary = summary })

  -- the output was opened; the large run was made, or memory was wanted before its first session; and its summary was written
  pub record HasLoaded : Type 0 where
    pub summary : Option (List ℕ)
    pub ran : RanLarge summary ⊎ (IsIdle result × (summary ≡ None))
    pub sink : D
    pub out : result.out ≡ Some sink
    pub label : Where (outside.streams.sinks.tells sink) (outside.streams.sinks.label sink ≡ [])
    pub ended : Status
    pub status : result.status ≡ exit_status ended
    pub wrote : WroteSummary (outside.streams.sinks.tells sink) (outside.streams.sinks.written sink) (outside.streams.sinks.faults sink) summary ended
    pub input : result.input ≡ None
    pub kept : result.kept.items ≡ []
    pub doors : result.doors.items ≡ []

  -- `no_reading`: no opening for reading failed; `ends_well`: where no count rose, all was done, or memory was wanted
  pub record DoesLoad : Type 0 where
    pub outcome : HasLoaded ⊎ LacksOutput outside.offices old new result
    pub no_reading : outside.offices.read_faults new ≡ outside.offices.read_faults old
    pub ends_well : NoOfficeFault outside.offices old new
        → ((sink : D) → result.out ≡ Some sink → outside.streams.sinks.faults sink ≡ 0)
        → (result.status ≡ exit_status Done) ⊎ (result.status ≡ exit_status Memory)
