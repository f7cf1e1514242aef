use Rattle.pj_cuts.proofs.VertexEnds.{vertex_from}
use Rattle.pj_cuts.proofs.cuts.Cuts.start_of.Goals as goal

pub returns : goal.returns
returns c = vertex_from _ _ _ _ _ _ c.in_ok-first.ensures c.start_in.ensures
