use Rattle.pj_replies.proofs.Finding.{whole_as, part_as, apart_as}
use Rattle.pj_replies.proofs.Refused.{needs_are}
use Rattle.pj_replies.proofs.reasons.needs.Goals as goal

pub returns-in-Whole : goal.returns-in-Whole
returns-in-Whole c = whole_as _ _ _ _ _ needs_are c.args.bytes.now c.in-Whole.name c.in-Whole.count c.in-Whole.ensures

pub returns-in-Part : goal.returns-in-Part
returns-in-Part c = part_as _ _ _ _ _ needs_are c.args.bytes.now c.in-Part.ensures

pub returns-in-Apart : goal.returns-in-Apart
returns-in-Apart c = apart_as _ _ _ _ _ needs_are c.args.bytes.now c.in-Apart.ensures
