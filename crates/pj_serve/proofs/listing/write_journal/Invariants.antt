-- The lines of the entries so far were written.
use Rattle.std.proofs.Common.{◌≡◌, ◌≤◌}
use Rattle.pj_io.specs.Told.{Where}
use Rattle.pj_serve.proofs.Listings.{Listed}
use Rattle.pj_serve.proofs.listing.write_journal.Given as goal

abbrev pub invariant-loop-index : goal.invariant-loop-index
invariant-loop-index g l = record {
  listed : Where (g.D.Sink.meaning.tells l.initial.sink) (Listed (g.D.Sink.meaning.written l.initial.sink) (g.D.Sink.meaning.written l.sink) l.index l.entries);
  told : g.D.Sink.meaning.tells l.sink ≡ g.D.Sink.meaning.tells l.initial.sink;
  label : Where (g.D.Sink.meaning.tells l.initial.sink) (g.D.Sink.meaning.label l.sink ≡ g.D.Sink.meaning.label l.initial.sink);
  count : g.D.Sink.meaning.faults l.initial.sink ≤ g.D.Sink.meaning.faults l.sink;
}
