use Rattle.std.proofs.Common.{refl}
use Rattle.std.proofs.lemmas.List.{length-map}
use Rattle.pj_pmap.proofs.Leaves.{full_is}
use Rattle.pj_pmap.proofs.Runs.{stretch_rises, run_near}
use Rattle.pj_pmap.proofs.cursor.Cursor.run_after.Goals as goal

pub run_above-near-requires : goal.run_above-near-requires
run_above-near-requires g c = stretch_rises g.K.Ord.cmp c.self.inside.source.now _ c.self.invariant.0 c.self.invariant.1

pub returns-then-not-is_empty : goal.returns-then-not-is_empty
returns-then-not-is_empty g c =
    let some = full_is c.is_empty.ensures c.if-not-is_empty.true refl in
    rw (← c.self.view_is)
    (run_near g.K.Ord.cmp g.met.K.Ord.total c.args.key.now c.self.inside.source.now _ _ c.self.invariant.0 c.self.invariant.1 (rw length-map some) (c.run_above-near.ensures.within some) (c.run_above-near.ensures.rest some))
