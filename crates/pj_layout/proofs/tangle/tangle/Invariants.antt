use Rattle.std.proofs.Common.{length}
use Rattle.pj_layout.specs.Tangles.{left}
use Rattle.pj_layout.proofs.Taking.{Taking}
use Rattle.pj_layout.proofs.tangle.tangle.Given as goal

-- the least free class was taken again and again
abbrev pub invariant-taking : goal.invariant-taking
invariant-taking l = Taking l.order.before.now l.classes l.taken.items l.rest l.free l.row l.counts.digits.items

abbrev pub decreases-taking : goal.decreases-taking
decreases-taking l = length (left l.classes l.taken.items)
