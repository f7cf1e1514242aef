use Rattle.std.proofs.Common.{length}
use Rattle.pj_apply.specs.Walks.{remaining}
use Rattle.pj_channel.proofs.Texts.{HaveAgreed}
use Rattle.pj_channel.proofs.one_text.all_agree.Given as goal

abbrev pub invariant-loop-change : goal.invariant-loop-change
invariant-loop-change l = HaveAgreed l.tables l.other (remaining l.changes l.after)

abbrev pub decreases-loop-change : goal.decreases-loop-change
decreases-loop-change l = length (remaining l.changes l.after)
