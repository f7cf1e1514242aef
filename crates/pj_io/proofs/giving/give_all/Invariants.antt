-- The bytes up to `given` were written, and else the sink is as it was.
use Rattle.std.proofs.Common.{length, ◌-◌, ◌≡◌, ◌≤◌, ◌++◌, take}
use Rattle.pj_io.specs.Told.{Where}
use Rattle.pj_io.proofs.giving.give_all.Given as goal

abbrev pub invariant-loop-given : goal.invariant-loop-given
invariant-loop-given g l = record {
  in_range : l.given ≤ length l.bytes;
  bytes : Where (g.D.Sink.meaning.tells l.initial.sink)
      (g.D.Sink.meaning.written l.sink ≡ g.D.Sink.meaning.written l.initial.sink ++ take l.given l.bytes);
  told : g.D.Sink.meaning.tells l.sink ≡ g.D.Sink.meaning.tells l.initial.sink;
  label : Where (g.D.Sink.meaning.tells l.initial.sink) (g.D.Sink.meaning.label l.sink ≡ g.D.Sink.meaning.label l.initial.sink);
  not_shut : Where (g.D.Sink.meaning.tells l.initial.sink) (g.D.Sink.meaning.was_shut l.sink ≡ g.D.Sink.meaning.was_shut l.initial.sink);
  never_falls : g.D.Sink.meaning.faults l.initial.sink ≤ g.D.Sink.meaning.faults l.sink;
}

abbrev pub decreases-loop-given : goal.decreases-loop-given
decreases-loop-given g l = length l.bytes - l.given
