-- What was taken so far is the requests that were answered and what is left over.
use Rattle.std.proofs.Common.{◌≡◌, ◌≤◌, length, IsTrue}
use Rattle.pj_io.specs.Told.{Where}
use Rattle.pj_session.proofs.Talks.{SoFar}
use Rattle.pj_session.proofs.sessions.talk.Given as goal

abbrev pub invariant-loop-room : goal.invariant-loop-room
invariant-loop-room g l = record {
  so_far : SoFar (g.P.Replier.limits l.replier) (λ s x r t. g.T.Step.does s x r t) (g.P.Replier.view l.initial.pass) l.initial.step l.limit
      (IsTrue (g.S.Source.meaning.tells l.initial.source)) (g.S.Source.meaning.left l.initial.source) (IsTrue (g.D.Sink.meaning.tells l.initial.sink)) (g.D.Sink.meaning.written l.initial.sink)
      (g.P.Replier.view l.pass) l.step l.room (g.S.Source.meaning.left l.source) l.decoder (g.D.Sink.meaning.written l.sink);
  ready : g.T.Step.ready l.step;
  size : length l.piece ≡ 4096;
  source_told : g.S.Source.meaning.tells l.source ≡ g.S.Source.meaning.tells l.initial.source;
  sink_told : g.D.Sink.meaning.tells l.sink ≡ g.D.Sink.meaning.tells l.initial.sink;
  label : Where (g.D.Sink.meaning.tells l.initial.sink) (g.D.Sink.meaning.label l.sink ≡ g.D.Sink.meaning.label l.initial.sink);
  source_count : g.S.Source.meaning.faults l.initial.source ≤ g.S.Source.meaning.faults l.source;
  sink_count : g.D.Sink.meaning.faults l.initial.sink ≤ g.D.Sink.meaning.faults l.sink;
  step_count : g.T.Step.faults l.initial.step ≤ g.T.Step.faults l.step;
}

abbrev pub decreases-loop-room : goal.decreases-loop-room
decreases-loop-room g l = l.room
