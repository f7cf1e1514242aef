use Rattle.std.proofs.Common.{Some, None}
use Rattle.pj_change.specs.Unrecord.{IsHolder}
use Rattle.pj_deps.specs.Dependents.{IsAfter, IsHolderAfter}
use Rattle.pj_deps.proofs.LeastHolders.{answers_alike, has_it, holders_unbounded, holders_after_of_set}
use Rattle.pj_deps.proofs.deps.Deps.next_holder.Goals as goal

pub returns-in-Some-clause-set : goal.returns-in-Some-clause-set
returns-in-Some-clause-set c = λ S of.
    rw c.in-Some.is (answers_alike (IsHolderAfter c.args.self.now c.args.name (Some c.in-Some.holder)) (λ h. IsHolder S c.args.name h × IsAfter (Some c.in-Some.holder) h) c.holder_above.result
    (holders_after_of_set c.args.self.now c.args.name S of (Some c.in-Some.holder)) c.holder_above.ensures)

pub returns-in-None-clause-set : goal.returns-in-None-clause-set
returns-in-None-clause-set c = λ S of.
    rw c.in-None.is (answers_alike (IsHolderAfter c.args.self.now c.args.name None) (λ h. IsHolder S c.args.name h × IsAfter None h) c.holder.result
    (holders_after_of_set c.args.self.now c.args.name S of None)
    (answers_alike (has_it c.args.self.now c.args.name) (IsHolderAfter c.args.self.now c.args.name None) c.holder.result (holders_unbounded c.args.self.now c.args.name) c.holder.ensures.table))
