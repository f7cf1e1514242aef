use Rattle.std.proofs.Common.{◌≡◌, take}
use Rattle.std.specs.Prelude.{filter}
use Rattle.pj_contest.specs.Rivals.{is_stranger_of}
use Rattle.pj_contest.proofs.strangers.strangers.Given as goal

abbrev pub invariant-loop-name : goal.invariant-loop-name
invariant-loop-name g l = record {
  owners : l.owners ≡ g.P.Peers.records l.peers;
  strangers : l.strangers.items ≡ filter (is_stranger_of (g.P.Peers.records l.peers) l.change) (take l.name-index l.names);
}
