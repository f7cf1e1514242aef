use Rattle.std.proofs.Common.{length}
use Rattle.pj_apply.specs.Walks.{remaining}
use Rattle.pj_channel.proofs.Pulls.{HasPulled}
use Rattle.pj_channel.proofs.union.union.Given as goal

abbrev pub invariant-loop-change : goal.invariant-loop-change
invariant-loop-change g l = HasPulled l.tables l.other (remaining l.changes l.after) l.both l.fn.steps l.steps

abbrev pub decreases-loop-change : goal.decreases-loop-change
decreases-loop-change g l = length (remaining l.changes l.after)
