use Rattle.pj_outline.proofs.OutlineChanges.{outline_of_members}
use Rattle.pj_outline.proofs.laws.outlines_are_of_members.Goals as goal

pub returns : goal.returns
returns c = outline_of_members
