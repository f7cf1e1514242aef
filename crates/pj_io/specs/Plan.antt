-- What an office in memory has to give, as contracts see it.
use Rattle.std.specs.Prelude.{ℕ, List, [], Option, unwrap_or, map, string_bytes, String}
use Rattle.std.specs.Map.{lookup}
use Rattle.std.specs.Str.{bytes_eq}
use Rattle.std.specs.BTreeMap.{BTreeMap}
use Rattle.std.specs.declared.vec.Vec.{Vec}
use Rattle.pj_io.specs.Office.{Contents}
use Rattle.pj_io.specs.Sessions.{bytes_of_each, shared_sessions}
use Rattle.pj_io.specs.Ways.{WaysInMemory}
use Rattle.pj_io.specs.MemSource.{SourceInMemory, new_source}
use Rattle.pj_io.specs.MemSink.{SinkInMemory, new_sink}
use Rattle.pj_io.specs.MemDoor.{DoorInMemory, new_door}

-- what an office in memory has to give: bytes for each opening, and how sources, sinks and doors behave
pub record PlanInMemory : Type 0 where
  -- the bytes of the input
  pub input : List ℕ
  -- the bytes of each script, by its path
  pub scripts : List (List ℕ × List ℕ)
  -- the bytes of each session at an address, in order
  pub sessions : List (List ℕ × List (List ℕ))
  -- the numbers for sources and sinks
  pub ways : WaysInMemory
  -- the calls of each door that fail, counted from 1
  pub accept_failing : List ℕ
  -- the openings that fail, counted from 1 over all five kinds
  pub open_failing : List ℕ

-- the scripts that a map holds, in the order of its keys
abbrev pub scripts_of : {A B : Type 0} → BTreeMap (String A) (Vec ℕ B) → List (List ℕ × List ℕ)
scripts_of scripts = map (λ entry. (string_bytes entry.0, entry.1.items)) scripts.entries

-- the sessions that a map holds, in the order of its keys
abbrev pub sessions_of : {A B C : Type 0} → BTreeMap (String A) (Vec (Vec ℕ B) C) → List (List ℕ × List (List ℕ))
sessions_of sessions = map (λ entry. (string_bytes entry.0, bytes_of_each entry.1.items)) sessions.entries

-- what stands under a name
abbrev pub named : {X : Type 0} → List ℕ → List (List ℕ × X) → Option X
named name entries = lookup (bytes_eq name) entries

-- the meanings of an office with this plan; a name that is not there has no bytes and no sessions
abbrev pub contents_of : PlanInMemory → Contents
contents_of plan = record {
  input = plan.input;
  script = λ path. unwrap_or (named path plan.scripts) [];
  sessions = λ address shares. shared_sessions (unwrap_or (named address plan.sessions) []) shares;
}

-- the source with these bytes, as the plan's numbers make it
abbrev pub source_by : PlanInMemory → List ℕ → SourceInMemory
source_by plan bytes = new_source bytes plan.ways.pieces plan.ways.take_failing

-- the sink with this label, as the plan's numbers make it
abbrev pub sink_by : PlanInMemory → List ℕ → SinkInMemory
sink_by plan label = new_sink label plan.ways.piece plan.ways.give_failing

-- the door with these sessions, as the plan's numbers make it
abbrev pub door_by : PlanInMemory → List (List ℕ) → DoorInMemory
door_by plan sessions = new_door sessions plan.ways plan.accept_failing
