use Rattle.pj_cuts.proofs.NextVertices.{out_match}
use Rattle.pj_cuts.proofs.cuts.Cuts.next_outside.Goals as goal

pub returns : goal.returns
returns c = out_match c.args.self.now c.args.at.change c.args.at.offset c.requires _ c.first_of_next.ensures
