use Rattle.std.proofs.Common.{◌≢◌, arith}
use Rattle.pj_bits.proofs.LowBits.{none_in_word, none_before, lowest_is_late, lowest_is_set}
use Rattle.pj_bits.proofs.words.next_bit.Goals as goal

pub returns-then-column-size : goal.returns-then-column-size
returns-then-column-size c =
    let e = c.bits_from-word.ensures in
    let some : c.bits_from-word.result ≢ 0 = c.if-word-ne0.true in (
      lowest_is_late c.args.words.now c.loop-at.at c.args.from c.bits_from-word.result e.fits e.before e.others some,
      c.if-column-size.true,
      lowest_is_set c.args.words.now c.loop-at.at c.args.from c.bits_from-word.result e.fits e.before e.others some,
      none_before c.args.words.now c.loop-at.at c.args.from c.bits_from-word.result e.fits e.before e.others some c.loop-at.invariant,
    )

pub returns-else-column-size : goal.returns-else-column-size
returns-else-column-size c =
    let e = c.bits_from-word.ensures in
    let some : c.bits_from-word.result ≢ 0 = c.if-word-ne0.true in
    λ k l h. none_before c.args.words.now c.loop-at.at c.args.from c.bits_from-word.result e.fits e.before e.others some c.loop-at.invariant k l (omega arith)

pub loop-at-preserved : goal.loop-at-preserved
loop-at-preserved c =
    let e = c.bits_from-word.ensures in
    none_in_word c.args.words.now c.loop-at.at c.args.from c.bits_from-word.result e.fits e.before e.others (omega arith) c.loop-at.invariant
