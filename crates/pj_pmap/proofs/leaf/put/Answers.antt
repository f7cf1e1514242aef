use Rattle.pj_pmap.proofs.Leaves.{set_between}
use Rattle.pj_pmap.proofs.leaf.put.Goals as goal

pub returns-then-place : goal.returns-then-place
returns-then-place g c = set_between _ _ _ _ c.if-place.true c.requires.within (c.requires.one c.if-place.true)
