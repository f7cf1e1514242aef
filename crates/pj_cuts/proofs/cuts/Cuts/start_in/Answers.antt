use Rattle.pj_cuts.proofs.VertexEnds.{start_none}
use Rattle.pj_cuts.proofs.cuts.Cuts.start_in.Goals as goal

pub returns-in-None : goal.returns-in-None
returns-in-None c = start_none c.args.self.now _ _ _ c.requires c.in-None.ensures
