use Rattle.std.proofs.Common.{◌≡◌, ◌∙◌, sym, arith}
use Rattle.std.proofs.lemmas.Result.{IfOk-weaker}
use Rattle.pj_pmap.specs.Pairs.{with_pair, or_else}
use Rattle.pj_ranges.specs.declared.range.HunkAt.{HunkAt}
use Rattle.pj_ranges.specs.Units.{hunk_cmp}
use Rattle.pj_states.specs.Rows.{Rows, hunk_at, said_by}
use Rattle.pj_states.specs.Given.{given_at}
use Rattle.pj_states.proofs.DeletionRules.{some_said}
use Rattle.pj_states.proofs.SetChanges.{hunk_added}
use Rattle.pj_states.proofs.StepsOfChanges.{said_steps}
use Rattle.pj_states.proofs.versions.Versions.with_hunk.Goals as goal

pub add-requires-clause-some : goal.add-requires-clause-some
add-requires-clause-some g c = some_said c.args.record.now c.args.hunk.now c.in-Some.op c.requires.member (sym c.in_ok-op.ensures ∙ c.in-Some.is)

pub returns-in-Some-clause-rows : goal.returns-in-Some-clause-rows
returns-in-Some-clause-rows g c =
    IfOk-weaker c.add.result
    (λ (v : Rows). v ≡ with_pair hunk_cmp (hunk_at c.args.record.now.name c.args.number) c.in-Some.op c.args.self)
    (λ (v : Rows). (k : HunkAt) → said_by k v ≡ or_else (given_at c.args.record.now c.args.number c.args.hunk.now k) (said_by k c.args.self))
    (hunk_added c.args.record.now c.args.number c.args.hunk.now c.in-Some.op (sym c.in_ok-op.ensures ∙ c.in-Some.is) c.args.self)
    c.add.ensures.rows

pub returns-in-Some-clause-cost : goal.returns-in-Some-clause-cost
returns-in-Some-clause-cost g c = (let steps = said_steps c.args.record.now c.args.hunk.now c.in-Some.op (sym c.in_ok-op.ensures ∙ c.in-Some.is) in let cost = c.add.ensures.cost in omega (arith, steps, cost))
