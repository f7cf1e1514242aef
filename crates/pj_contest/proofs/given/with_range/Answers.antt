use Rattle.std.proofs.Common.{subst}
use Rattle.std.specs.Prelude.{Contains}
use Rattle.pj_contest.proofs.Complete.{good_range}
use Rattle.pj_contest.proofs.given.with_range.Goals as goal

pub of-requires : goal.of-requires
of-requires c = (good_range c.args.record.now _ _ _ _ (subst (λ h. Contains c.args.record.now.change.hunks h) c.in-Delete.is c.requires)).some
