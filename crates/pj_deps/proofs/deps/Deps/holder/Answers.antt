use Rattle.std.proofs.Common.{◌≡◌, ap, true, false, Some}
use Rattle.std.specs.Prelude.{is_some}
use Rattle.pj_name.specs.Name.{no_name}
use Rattle.pj_change.specs.Unrecord.{IsHolder}
use Rattle.pj_deps.specs.Dependents.{has_pair, IsHolderAfter}
use Rattle.pj_deps.proofs.LeastHolders.{answers_alike, has_it, least_is_first, holders_after_least, holders_of_set}
use Rattle.pj_deps.proofs.deps.Deps.holder.Goals as goal

pub returns-in-Some-clause-table : goal.returns-in-Some-clause-table
returns-in-Some-clause-table c =
    let there : has_pair c.args.self.now c.args.name c.least-least.result ≡ true = rw (← c.self.view_is) (ap is_some c.in-Some.ensures) in
    rw c.least-least.ensures (least_is_first c.args.self.now c.args.name (rw c.least-least.ensures at there))

pub returns-in-Some-clause-set : goal.returns-in-Some-clause-set
returns-in-Some-clause-set c = λ S of.
    answers_alike (has_it c.args.self.now c.args.name) (IsHolder S c.args.name) (Some c.least-least.result) (holders_of_set c.args.self.now c.args.name S of) (returns-in-Some-clause-table c)

pub returns-in-None-clause-table : goal.returns-in-None-clause-table
returns-in-None-clause-table c =
    let none : has_pair c.args.self.now c.args.name c.least-least.result ≡ false = rw (← c.self.view_is) (ap is_some c.in-None.ensures) in
    answers_alike (IsHolderAfter c.args.self.now c.args.name (Some no_name)) (has_it c.args.self.now c.args.name) c.holder_above.result
    (holders_after_least c.args.self.now c.args.name (rw c.least-least.ensures at none)) (rw c.least-least.ensures at c.holder_above.ensures)

pub returns-in-None-clause-set : goal.returns-in-None-clause-set
returns-in-None-clause-set c = λ S of.
    answers_alike (has_it c.args.self.now c.args.name) (IsHolder S c.args.name) c.holder_above.result (holders_of_set c.args.self.now c.args.name S of) (returns-in-None-clause-table c)
