use Rattle.pj_view.proofs.OthersKept.{others_kept}
use Rattle.pj_view.proofs.laws.other_dead_vertices_are_kept.Goals as goal

pub returns : goal.returns
returns c = others_kept
