-- When a call ends well: each session has all its requests, and no count rose.
use Rattle.std.specs.Prelude.{◌≡◌, ◌⊎◌, ℕ, ◌<◌, ◌≤◌, ◌+◌, Bool, true, List, [], length}
use Rattle.pj_machine.specs.declared.command.Command.{Command}
use Rattle.pj_io.specs.Causes.{Rose}
use Rattle.pj_wire.specs.Requests.{HasRequests}
use Rattle.pj_serve.specs.declared.finish.Kept.{Kept}
use Rattle.pj_io.specs.Meanings.{Offices, Streams}

-- the bytes are requests up to one to quit that ends within the limit, or to their end below the limit
pub record IsComplete (limit : ℕ) (bytes : List ℕ) : Type 0 where
  pub commands : List Command
  pub quit : Bool
  pub rest : List ℕ
  pub requests : HasRequests bytes commands quit rest
  pub within : ((quit ≡ true) × (length bytes ≤ limit + length rest)) ⊎ ((rest ≡ []) × (length bytes < limit))

-- no count of the office rose
pub record NoOfficeFault {O : Type 0} (offices : Offices O) (old new : O) : Type 0 where
  pub read : ¬ Rose (offices.read_faults old) (offices.read_faults new)
  pub write : ¬ Rose (offices.write_faults old) (offices.write_faults new)

-- no source and no sink of a session has had a fault
pub record HasNoFault {S D : Type 0} (streams : Streams S D) (kept : Kept S D) : Type 0 where
  pub source : streams.sources.faults kept.source ≡ 0
  pub sink : streams.sinks.faults kept.sink ≡ 0
