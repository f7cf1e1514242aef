use Rattle.std.proofs.Common.{◌≡◌, ◌∙◌, ◌+◌, ap, suc, length, arith}
use Rattle.pj_change.specs.declared.hunk.Hunk.{Hunk}
use Rattle.pj_change.proofs.PositionLemmas.{hunk_read}
use Rattle.pj_states.specs.Rows.{said_by}
use Rattle.pj_states.proofs.SetChanges.{gone_by, given_upto, without_all, without_more, set_without}
use Rattle.pj_states.proofs.StepsOfChanges.{steps_more, steps_within, still_no_other}
use Rattle.pj_states.proofs.versions.Versions.without_change.Goals as goal

pub loop-number-preserved : goal.loop-number-preserved
loop-number-preserved g c =
    let r = c.args.record.now in
    let i = c.loop-number.number in
    let h = c.hunk-item.result in
    let at = hunk_read r c.items-hunk-items.result.now i h c.items-hunk-items.ensures c.hunk-item.is c.loop-number-test.true in
    let next : suc i ≡ i + 1 = omega arith in
    record {
      rows = λ k.
          without_more r i h at.there c.args.self c.loop-number.now c.in_ok-now.now c.loop-number.invariant.rows c.in_ok-now.ensures.rows k
          ∙ ap (λ n. gone_by (given_upto r n k) (said_by k c.args.self)) next;
      cost = λ no_other.
          let now = c.in_ok-now.ensures.cost (still_no_other r (given_upto r i) c.args.self c.loop-number.now c.loop-number.invariant.rows no_other) at.there in
          let before = c.loop-number.invariant.cost no_other in
          let steps = steps_more r.change.hunks i h at.there in
          omega (arith, now, before, steps);
    }

pub returns-clause-rows : goal.returns-clause-rows
returns-clause-rows g c =
    without_all c.args.record.now c.args.self c.loop-number.now c.loop-number.number (omega (arith, ap (length {A = Hunk}) c.items-hunk-items.ensures)) c.loop-number.invariant.rows

pub returns-clause-set : goal.returns-clause-set
returns-clause-set g c = set_without c.args.record.now c.args.self c.loop-number.now (returns-clause-rows g c)

pub returns-in_err-now-clause-cost : goal.returns-in_err-now-clause-cost
returns-in_err-now-clause-cost g c = λ no_other.
    let r = c.args.record.now in
    let i = c.loop-number.number in
    let h = c.hunk-item.result in
    let at = hunk_read r c.items-hunk-items.result.now i h c.items-hunk-items.ensures c.hunk-item.is c.loop-number-test.true in
    let now = c.in_err-now.ensures.cost (still_no_other r (given_upto r i) c.args.self c.loop-number.now c.loop-number.invariant.rows no_other) at.there in
    let before = c.loop-number.invariant.cost no_other in
    let steps = steps_more r.change.hunks i h at.there in
    let all = steps_within r.change.hunks (i + 1) in
    omega (arith, now, before, steps, all)
