use Rattle.pj_pmap.proofs.Leaves.{is_empty_list}
use Rattle.pj_pmap.proofs.map.PMap.is_empty.Goals as goal

pub returns : goal.returns
returns g c = is_empty_list c.len.result c.args.self.now c.len.ensures.same
