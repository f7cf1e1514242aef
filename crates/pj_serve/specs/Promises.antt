-- What the top call promises.
use Rattle.std.specs.Prelude.{◌≡◌, ◌⊎◌, true, List, Some, None}
use Rattle.std.specs.declared.string.String.{String}
use Rattle.std.specs.declared.alloc.Global.{Global}
use Rattle.pj_machine.specs.declared.limits.Limits.{Limits}
use Rattle.pj_words.specs.Words.{Work}
use Rattle.pj_serve.specs.declared.status.Status.{Status}
use Rattle.pj_serve.specs.declared.status.Status.TheVariants.{Done, Malformed, Words, Memory}
use Rattle.pj_serve.specs.declared.finish.Finish.{Finish}
use Rattle.pj_serve.specs.declared.task.Loading.{Loading}
use Rattle.pj_serve.specs.Complete.{NoOfficeFault}
use Rattle.pj_serve.specs.Full.{AreFull}
use Rattle.pj_serve.specs.Loads.{DoesLoad}
use Rattle.pj_io.specs.Meanings.{Offices, Streams}
use Rattle.pj_serve.specs.Outside.{Outside, KeepsOffice}
use Rattle.pj_serve.specs.Serves.{DoesServe}
use Rattle.pj_serve.specs.Sessions.{IsIdle, HoldsNone, DoesOne, DoesRun}
use Rattle.pj_serve.specs.Show.{Shows}
use Rattle.pj_serve.specs.Status.{exit_status}
use Rattle.pj_serve.specs.Tasks.{Show, One, Run, Serve, Load, task_of, paths_of, is_to_serve}

-- the words are no command, or those of `serve` and memory for reading them was wanted: nothing was opened, and the office is as before
pub record IsRefused {O S D V : Type 0} (old new : O) (words : List (String Global)) (result : Finish S D V) : Type 0 where
  pub status : (result.status ≡ exit_status Words) ⊎ ((result.status ≡ exit_status Memory) × (is_to_serve words ≡ true))
  pub office : new ≡ old
  pub holds : HoldsNone result

-- `show` ended with this status. `ends_well`: where no count rose, the text was judged, or memory was wanted.
pub record HasShown {O S D V : Type 0} (offices : Offices O) (streams : Streams S D) (old new : O) (result : Finish S D V) : Type 0 where
  pub ended : Status
  pub status : result.status ≡ exit_status ended
  pub shows : Shows offices streams old new result.input result.out ended
  pub idle : IsIdle result
  pub ends_well : NoOfficeFault offices old new
      → ((source : S) → result.input ≡ Some source → streams.sources.faults source ≡ 0)
      → ((sink : D) → result.out ≡ Some sink → streams.sinks.faults sink ≡ 0)
      → (result.status ≡ exit_status Done) ⊎ ((result.status ≡ exit_status Malformed) ⊎ (result.status ≡ exit_status Memory))

-- what the call does for each command
pub record Promises {O S D V : Type 0} (outside : Outside O S D V) (limits : Limits) (old new : O) (words : List (String Global)) (result : Finish S D V) : Type 0 where
  pub by_words : result.status ≡ exit_status Words → task_of words ≡ None
  pub refused : task_of words ≡ None → IsRefused old new words result
  pub show : task_of words ≡ Some Show → HasShown outside.offices outside.streams old new result
  pub one : task_of words ≡ Some One → DoesOne outside limits old new result
  pub run : task_of words ≡ Some Run → DoesRun outside limits old new result (paths_of words)
  pub serve : (work : Work) → task_of words ≡ Some (Serve work)
      → DoesServe outside limits old new result work.address work.sessions work.workers
  pub load : (loading : Loading) → task_of words ≡ Some (Load loading)
      → DoesLoad outside old new result loading.number loading.changes loading.sessions
  pub office : KeepsOffice outside.offices old new

-- the same under the limits of the program
pub record FullPromises {O S D V : Type 0} (outside : Outside O S D V) (old new : O) (words : List (String Global)) (result : Finish S D V) : Type 0 where
  pub limits : Limits
  pub full : AreFull limits
  pub promises : Promises outside limits old new words result
