use Rattle.pj_contest.proofs.Named.{peer_is}
use Rattle.pj_contest.proofs.owners.peer_of.Goals as goal

pub returns : goal.returns
returns g c = peer_is (g.P.Peers.records c.args.peers.now) c.args.name c.peer.result c.peer.ensures.found c.peer.ensures.named c.peer.ensures.there
