-- A door in memory, as contracts see it.
use Rattle.std.specs.Prelude.{◌≡◌, ℕ, ◌+◌, List, drop, Option, Some, None, Result, Ok, Err}
use Rattle.std.specs.Fmt.{decimal}
use Rattle.pj_io.specs.Causes.{one_more}
use Rattle.pj_io.specs.Ways.{WaysInMemory}
use Rattle.pj_io.specs.MemSource.{SourceInMemory, new_source}
use Rattle.pj_io.specs.MemSink.{SinkInMemory, new_sink}
use Rattle.pj_io.specs.declared.refusal.DoorRefusal.{DoorRefusal}
use Rattle.pj_io.specs.declared.refusal.DoorRefusal.TheVariants.{Failed, Memory}

-- a door in memory: the sessions still to come, how it behaves, and how its calls went
pub record DoorInMemory : Type 0 where
  -- the bytes of each session still to come
  pub coming : List (List ℕ)
  -- how many pairs it has given
  pub given : ℕ
  -- the numbers for its sources and sinks
  pub ways : WaysInMemory
  -- the calls of `accept` that fail, counted from 1
  pub failing : List ℕ
  -- how many calls of `accept` there were
  pub calls : ℕ
  -- how many of them failed
  pub faults : ℕ

-- a door that was not called yet
abbrev pub new_door : List (List ℕ) → WaysInMemory → List ℕ → DoorInMemory
new_door sessions its_ways failing_calls =
    record { coming = sessions; given = 0; ways = its_ways; failing = failing_calls; calls = 0; faults = 0 }

-- A call of `accept` is counted. With a pair the first session leaves, and one more is given; a failure is counted.
abbrev pub AfterAccept : {P : Type 0} → DoorInMemory → DoorInMemory → Result (Option P) DoorRefusal → Type 0
AfterAccept old new (Ok (Some pair)) =
    new ≡ record old { coming = drop 1 old.coming; given = old.given + 1; calls = one_more old.calls }
AfterAccept old new (Ok None) = new ≡ record old { calls = one_more old.calls }
AfterAccept old new (Err Failed) = new ≡ record old { calls = one_more old.calls; faults = one_more old.faults }
AfterAccept old new (Err Memory) = new ≡ record old { calls = one_more old.calls }

-- the pair is made by the door's numbers, and the sink is labelled by the pair's number
pub record MadeByWays (door : DoorInMemory) (source : SourceInMemory) (sink : SinkInMemory) : Type 0 where
  pub source_made : source ≡ new_source source.left door.ways.pieces door.ways.take_failing
  pub sink_made : sink ≡ new_sink (decimal (door.given + 1)) door.ways.piece door.ways.give_failing
