use Rattle.pj_dead.proofs.Knowing.{dead_more}
use Rattle.pj_dead.proofs.known.is_dead.Goals as goal

pub returns-clause-known : goal.returns-clause-known
returns-clause-known g c = dead_more (g.V.View.graph c.args.view.now) c.args.known.now c.requires.known c.args.at c.insert.new.self c.dead-dead.result c.dead-dead.ensures c.in_ok-insert.ensures.updates
