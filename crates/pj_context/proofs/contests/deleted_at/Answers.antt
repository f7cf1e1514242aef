use Rattle.pj_change.proofs.PositionLemmas.{position_small}
use Rattle.pj_context.proofs.contests.deleted_at.Goals as goal

pub child_of-requires : goal.child_of-requires
child_of-requires c = position_small c.args.o.now.change c.args.offset _ c.in-Some-NameAt-default.ensures.0
