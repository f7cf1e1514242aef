use Rattle.pj_pmap.proofs.Runs.{next_run}
use Rattle.pj_pmap.proofs.map.PMap.next_after.Goals as goal

pub returns : goal.returns
returns g c = let rises = rw c.self.view_is at c.self.invariant in rw (next_run g.K.Ord.cmp g.met.K.Ord.total c.args.key.now c.args.self.now _ rises c.run_after-run.ensures) c.first_pair.ensures
