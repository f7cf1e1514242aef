use Rattle.pj_cuts.proofs.VertexEnds.{vertex_upto}
use Rattle.pj_cuts.proofs.cuts.Cuts.end_of.Goals as goal

pub returns : goal.returns
returns c = vertex_upto _ _ _ _ _ _ c.in_ok-past.ensures c.end_in.ensures
