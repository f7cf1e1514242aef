use Rattle.std.proofs.Common.{sym, arith}
use Rattle.pj_change.proofs.EqualNames.{same_name_is}
use Rattle.pj_contest.proofs.Walks.{has_before}
use Rattle.pj_contest.proofs.starts.first_new.Goals as goal

pub returns-then-p-at : goal.returns-then-p-at
returns-then-p-at c = λ q over low.
    (c.in-Some.p, c.in-Some.is, has_before q c.args.at c.in-Some.p over (same_name_is _ _ (sym c.if-eq.ensures)) c.if-p-at.true (omega arith))
