use Rattle.std.proofs.Common.{◌≡◌, ap, None, cond, arith}
use Rattle.std.specs.Ordering.{is_eq}
use Rattle.std.proofs.lemmas.Result.{IfOk-weaker}
use Rattle.pj_ranges.specs.declared.range.HunkAt.{HunkAt}
use Rattle.pj_ranges.specs.Units.{hunk_cmp}
use Rattle.pj_states.specs.Rows.{Rows, hunk_at, said_by}
use Rattle.pj_states.specs.OfSets.{deletion_of}
use Rattle.pj_states.specs.Given.{given_at}
use Rattle.pj_states.proofs.SetChanges.{gone_by, hunk_removed}
use Rattle.pj_states.proofs.StepsOfChanges.{removed_steps}
use Rattle.pj_states.proofs.versions.Versions.without_hunk.Goals as goal

pub returns-in-Delete-clause-rows : goal.returns-in-Delete-clause-rows
returns-in-Delete-clause-rows g c =
    IfOk-weaker c.remove.result
    (λ (v : Rows). (k : HunkAt) → said_by k v ≡ cond (is_eq (hunk_cmp k (hunk_at c.args.record.now.name c.args.number))) None (said_by k c.args.self))
    (λ (v : Rows). (k : HunkAt) → said_by k v ≡ gone_by (given_at c.args.record.now c.args.number c.args.hunk.now k) (said_by k c.args.self))
    (hunk_removed c.args.record.now c.args.number c.args.hunk.now _ (ap (deletion_of c.args.record.now) c.in-Delete.is) c.args.self)
    c.remove.ensures.said

pub returns-in-Revive-clause-rows : goal.returns-in-Revive-clause-rows
returns-in-Revive-clause-rows g c =
    IfOk-weaker c.remove-in-Revive.result
    (λ (v : Rows). (k : HunkAt) → said_by k v ≡ cond (is_eq (hunk_cmp k (hunk_at c.args.record.now.name c.args.number))) None (said_by k c.args.self))
    (λ (v : Rows). (k : HunkAt) → said_by k v ≡ gone_by (given_at c.args.record.now c.args.number c.args.hunk.now k) (said_by k c.args.self))
    (hunk_removed c.args.record.now c.args.number c.args.hunk.now _ (ap (deletion_of c.args.record.now) c.in-Revive.is) c.args.self)
    c.remove-in-Revive.ensures.said

pub returns-in-Delete-clause-cost : goal.returns-in-Delete-clause-cost
returns-in-Delete-clause-cost g c = λ no_other at.
    let steps = removed_steps c.args.record.now c.args.self no_other c.args.number c.args.hunk.now _ at (ap (deletion_of c.args.record.now) c.in-Delete.is) in
    let cost = c.remove.ensures.cost in
    omega (arith, steps, cost)

pub returns-in-Revive-clause-cost : goal.returns-in-Revive-clause-cost
returns-in-Revive-clause-cost g c = λ no_other at.
    let steps = removed_steps c.args.record.now c.args.self no_other c.args.number c.args.hunk.now _ at (ap (deletion_of c.args.record.now) c.in-Revive.is) in
    let cost = c.remove-in-Revive.ensures.cost in
    omega (arith, steps, cost)
