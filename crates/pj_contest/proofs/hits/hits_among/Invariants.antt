use Rattle.std.proofs.Common.{◌≡◌, take, map}
use Rattle.std.specs.Prelude.{filter}
use Rattle.pj_contest.specs.Contests.{is_hit}
use Rattle.pj_contest.proofs.hits.hits_among.Given as goal

abbrev pub invariant-loop-range : goal.invariant-loop-range
invariant-loop-range g l = record {
  deleters : l.deleters ≡ g.P.Peers.records l.peers;
  owners : l.owners ≡ g.P.Peers.records l.peers;
  hits : l.hits.items ≡ map (λ q. q.by) (filter (λ q. is_hit (g.P.Peers.records l.peers) q.by l.change) (take l.range-index l.ranges));
}
