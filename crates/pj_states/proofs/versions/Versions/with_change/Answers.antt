use Rattle.std.proofs.Common.{◌≡◌, ◌∙◌, ◌+◌, ap, suc, length, arith}
use Rattle.pj_change.specs.declared.hunk.Hunk.{Hunk}
use Rattle.pj_change.proofs.Members.{member_at}
use Rattle.pj_change.proofs.PositionLemmas.{hunk_read}
use Rattle.pj_pmap.specs.Pairs.{or_else}
use Rattle.pj_states.specs.Rows.{said_by}
use Rattle.pj_states.proofs.SetChanges.{given_upto, with_all, with_more, set_with, fresh_still}
use Rattle.pj_states.proofs.StepsOfChanges.{steps_more}
use Rattle.pj_states.proofs.versions.Versions.with_change.Goals as goal

pub loop-number-preserved : goal.loop-number-preserved
loop-number-preserved g c =
    let r = c.args.record.now in
    let i = c.loop-number.number in
    let h = c.hunk-item.result in
    let at = hunk_read r c.items-hunk-items.result.now i h c.items-hunk-items.ensures c.hunk-item.is c.loop-number-test.true in
    let next : suc i ≡ i + 1 = omega arith in
    record {
      rows = λ k.
          with_more r i h at.there c.args.self c.loop-number.now c.in_ok-now.now c.loop-number.invariant.rows c.in_ok-now.ensures.rows k
          ∙ ap (λ n. or_else (given_upto r n k) (said_by k c.args.self)) next;
      cost = omega (arith, c.in_ok-now.ensures.cost, c.loop-number.invariant.cost, steps_more r.change.hunks i h at.there);
    }

pub returns-clause-rows : goal.returns-clause-rows
returns-clause-rows g c =
    with_all c.args.record.now c.args.self c.loop-number.now c.loop-number.number (omega (arith, ap (length {A = Hunk}) c.items-hunk-items.ensures)) c.loop-number.invariant.rows

pub returns-clause-set : goal.returns-clause-set
returns-clause-set g c = set_with c.args.record.now c.args.self c.loop-number.now c.requires (returns-clause-rows g c)

pub with_hunk-requires-clause-member : goal.with_hunk-requires-clause-member
with_hunk-requires-clause-member g c =
    let r = c.args.record.now in
    let i = c.loop-number.number in
    let h = c.hunk-item.result in
    let at = hunk_read r c.items-hunk-items.result.now i h c.items-hunk-items.ensures c.hunk-item.is c.loop-number-test.true in
    member_at r.change.hunks i h at.there

pub with_hunk-requires-clause-fresh : goal.with_hunk-requires-clause-fresh
with_hunk-requires-clause-fresh g c =
    let r = c.args.record.now in
    let i = c.loop-number.number in
    let h = c.hunk-item.result in
    let at = hunk_read r c.items-hunk-items.result.now i h c.items-hunk-items.ensures c.hunk-item.is c.loop-number-test.true in
    fresh_still r i h at.there c.args.self c.loop-number.now c.loop-number.invariant.rows (c.requires i)
