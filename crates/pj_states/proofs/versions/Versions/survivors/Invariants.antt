use Rattle.std.proofs.Common.{◌≡◌}
use Rattle.pj_ranges.specs.Over.{left_from}
use Rattle.pj_states.specs.Survivals.{survives_in}
use Rattle.pj_states.proofs.Seen.{AreSeen}
use Rattle.pj_states.proofs.versions.Versions.survivors.Given as goal

abbrev pub invariant-loop-next : goal.invariant-loop-next
invariant-loop-next g l = record {
  same : l.walk ≡ l.initial.walk;
  owner : l.found.owner ≡ survives_in l.self l.at.change l.at;
  seen : AreSeen l.self l.initial.walk l.at (g.C.ContestedHunks.contested l.contested) l.next l.found;
}

abbrev pub decreases-loop-next : goal.decreases-loop-next
decreases-loop-next g l = left_from l.initial.walk l.next
