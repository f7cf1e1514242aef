use Rattle.pj_pmap.proofs.Runs.{rest_leaf}
use Rattle.pj_pmap.proofs.run.run_above.Goals as goal

pub returns-clause-rest : goal.returns-clause-rest
returns-clause-rest g c l = rest_leaf g.V.Share.shown c.args.run.now c.place-place.ensures
