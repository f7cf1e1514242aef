-- Bytes were taken, and none was read.
use Rattle.std.proofs.Common.{◌≡◌, ◌≤◌, IsTrue}
use Rattle.pj_sync.proofs.Receiving.{SoFar}
use Rattle.pj_sync.proofs.link.Link.receive.Given as goal

abbrev pub invariant-loop-numbered : goal.invariant-loop-numbered
invariant-loop-numbered g l = record {
  so_far : SoFar l.due (IsTrue (g.S.Source.meaning.tells l.initial.source)) l.initial.self l.self
      (g.S.Source.meaning.left l.initial.source) (g.S.Source.meaning.left l.source);
  told : g.S.Source.meaning.tells l.source ≡ g.S.Source.meaning.tells l.initial.source;
  count : g.S.Source.meaning.faults l.initial.source ≤ g.S.Source.meaning.faults l.source;
}

abbrev pub decreases-loop-numbered : goal.decreases-loop-numbered
decreases-loop-numbered g l = l.self.room
