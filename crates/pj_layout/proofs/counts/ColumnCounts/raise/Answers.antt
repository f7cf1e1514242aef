use Rattle.std.proofs.Common.{◌≡◌, ◌<◌, [], length, get_or, sym, ◌∙◌, arith}
use Rattle.std.proofs.lemmas.List.{get_or_read}
use Rattle.pj_layout.proofs.Digits.{raised_more}
use Rattle.pj_layout.proofs.counts.ColumnCounts.raise.Goals as goal

pub loop-digit-preserved : goal.loop-digit-preserved
loop-digit-preserved c =
    let inside : c.loop-digit.digit-index < length c.loop-digit.digit-items = omega (arith, c.loop-digit.invariant.long) in
    let old : c.digit-item.result ≡ get_or c.loop-digit.digit-items c.loop-digit.digit-index [] = get_or_read c.loop-digit.digit-items c.loop-digit.digit-index c.digit-item.result inside c.digit-item.is [] in
    raised_more c.deref_mut-digit-items.result.now c.loop-digit.digit-items c.args.row.now c.loop-digit.row (get_or c.loop-digit.digit-items c.loop-digit.digit-index c.digit-item.result) c.add.new.self c.add.new.carry c.loop-digit.digit-index
    inside (sym c.digit-item.is ∙ old) c.add.ensures.size c.add.ensures.carry_size c.add.ensures.sum c.add.ensures.carried c.loop-digit.invariant
