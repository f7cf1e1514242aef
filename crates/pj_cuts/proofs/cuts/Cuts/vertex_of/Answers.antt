use Rattle.pj_cuts.proofs.VertexEnds.{vertex_between}
use Rattle.pj_cuts.proofs.cuts.Cuts.vertex_of.Goals as goal

pub returns : goal.returns
returns c = vertex_between _ _ _ _ _ _ _ c.in_ok-first.ensures c.start_in-start.ensures c.end_in-end.ensures
