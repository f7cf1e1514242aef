use Rattle.std.proofs.Common.{◌≡◌, ◌<◌, [], length, get_or, sym, ◌∙◌, ap, arith}
use Rattle.std.proofs.lemmas.List.{get_or_read, with_items_is}
use Rattle.pj_layout.proofs.Digits.{lowered_more, all_lowered}
use Rattle.pj_layout.proofs.counts.ColumnCounts.lower.Goals as goal

pub loop-digit-preserved : goal.loop-digit-preserved
loop-digit-preserved c =
    let inside : c.loop-digit.digit-index < length c.loop-digit.digit-items = omega (arith, c.loop-digit.invariant.long) in
    let old : c.digit-item.result ≡ get_or c.loop-digit.digit-items c.loop-digit.digit-index [] = get_or_read c.loop-digit.digit-items c.loop-digit.digit-index c.digit-item.result inside c.digit-item.is [] in
    let e = c.subtract.ensures in
    lowered_more c.deref_mut-digit-items.result.now c.loop-digit.digit-items c.args.row.now c.loop-digit.row (get_or c.loop-digit.digit-items c.loop-digit.digit-index c.digit-item.result) c.subtract.new.self c.subtract.new.borrow c.args.counted.now c.loop-digit.counted c.subtract.new.seen c.loop-digit.digit-index
    inside (sym c.digit-item.is ∙ old) e.size e.borrow_size e.seen_size e.difference e.borrowed e.seen c.loop-digit.invariant

pub returns-clause-lowered : goal.returns-clause-lowered
returns-clause-lowered c =
    let start = c.deref_mut-digit-items.ensures.value in
    let long : length c.loop-digit.digit-items ≡ c.args.self.now.digits.len = c.loop-digit.invariant.long ∙ ap length start ∙ sym c.args.self.now.digits.ok.0 in
    let whole : c.loop-digit.digit-index ≡ length c.deref_mut-digit-items.result.now = omega arith in
    rw (with_items_is c.args.self.now.digits c.loop-digit.digit-items long, ← start)
    (all_lowered c.deref_mut-digit-items.result.now c.loop-digit.digit-items c.args.row.now c.loop-digit.row c.args.counted.now c.loop-digit.counted c.loop-digit.digit-index whole
    (λ k. rw start (c.requires.enough k)) c.loop-digit.invariant)
