use Rattle.pj_cuts.proofs.VertexEnds.{first_of_next}
use Rattle.pj_cuts.proofs.cuts.Cuts.first_of_next.Goals as goal

pub returns : goal.returns
returns c = first_of_next _ _ _ _ _ _ c.in_ok-first.ensures c.end_in-end.ensures
