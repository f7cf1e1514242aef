use Rattle.pj_cuts.proofs.FreeChanges.{free_of_none}
use Rattle.pj_cuts.proofs.cuts.Cuts.is_free_of.Goals as goal

pub returns : goal.returns
returns c = free_of_none c.args.self.now c.args.change c.next.result c.next.ensures c.is_none.result c.is_none.ensures
