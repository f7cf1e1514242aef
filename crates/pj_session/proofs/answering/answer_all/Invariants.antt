-- What waited is the requests answered so far and what is left over.
use Rattle.std.proofs.Common.{◌≡◌, ◌+◌, ◌<◌, ◌≤◌, ◌^◌, length, IsTrue}
use Rattle.pj_io.specs.Told.{Where}
use Rattle.pj_session.proofs.Turns.{Underway}
use Rattle.pj_session.proofs.answering.answer_all.Given as goal

abbrev pub invariant-loop-command : goal.invariant-loop-command
invariant-loop-command g l = record {
  underway : Underway (g.P.Replier.limits l.replier) (λ s x r t. g.T.Step.does s x r t) (g.P.Replier.view l.initial.pass) l.initial.step l.initial.decoder
      (IsTrue (g.D.Sink.meaning.tells l.initial.sink)) (g.D.Sink.meaning.written l.initial.sink)
      (g.P.Replier.view l.pass) l.step l.decoder (g.D.Sink.meaning.written l.sink);
  ready : g.T.Step.ready l.step;
  told : g.D.Sink.meaning.tells l.sink ≡ g.D.Sink.meaning.tells l.initial.sink;
  label : Where (g.D.Sink.meaning.tells l.initial.sink) (g.D.Sink.meaning.label l.sink ≡ g.D.Sink.meaning.label l.initial.sink);
  sink_count : g.D.Sink.meaning.faults l.initial.sink ≤ g.D.Sink.meaning.faults l.sink;
  step_count : g.T.Step.faults l.initial.step ≤ g.T.Step.faults l.step;
  room : (g.P.Replier.view l.pass).calls + (g.P.Replier.view l.pass).calls + length l.decoder < 2 ^ 64;
}

abbrev pub decreases-loop-command : goal.decreases-loop-command
decreases-loop-command g l = length l.decoder
