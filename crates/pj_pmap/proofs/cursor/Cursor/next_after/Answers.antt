use Rattle.pj_pmap.proofs.Runs.{next_run, stretch_run}
use Rattle.pj_pmap.proofs.cursor.Cursor.next_after.Goals as goal

pub invariant_of-self : goal.invariant_of-self
invariant_of-self g c =
    let run = rw (← c.self.view_is) at c.run_after-run.ensures in
    (c.self.invariant.0, stretch_run g.K.Ord.cmp c.args.key.now c.self.inside.source.now _ run)

pub returns-clause-next : goal.returns-clause-next
returns-clause-next g c =
    let rises = rw c.self.view_is at c.self.invariant.0 in
    rw (next_run g.K.Ord.cmp g.met.K.Ord.total c.args.key.now c.args.self.now _ rises c.run_after-run.ensures) c.first_pair.ensures
