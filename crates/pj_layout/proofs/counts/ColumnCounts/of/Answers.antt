use Rattle.std.proofs.Common.{sym, ◌∙◌, arith}
use Rattle.pj_bits.specs.Row.{has}
use Rattle.pj_layout.proofs.Predecessors.{digit_most, front_bound, front_counted}
use Rattle.pj_layout.proofs.counts.ColumnCounts.of.Goals as goal

pub raise-requires-clause-room : goal.raise-requires-clause-room
raise-requires-clause-room c = λ k. (
    let counted = c.loop-class.invariant.counted k in
    let most = front_bound c.args.before.now c.args.classes.now c.loop-class.class-index k in
    let one = digit_most (has c.copy_row.new.self k) in
    omega (arith, c.loop-class.invariant.room, c.loop-class-test.true)
    )

pub loop-class-preserved : goal.loop-class-preserved
loop-class-preserved c = record {
  room = rw c.raise.ensures.len c.loop-class.invariant.room;
  wide = rw c.raise.ensures.row_width c.raise.ensures.width;
  row_width = c.raise.ensures.row_width ∙ c.copy_row.ensures.size ∙ c.loop-class.invariant.row_width;
  counted = λ k. c.raise.ensures.raised k ∙ rw (c.copy_row.ensures.copied k, c.loop-class.invariant.counted k) (sym (front_counted c.args.before.now c.args.classes.now c.loop-class.class-index k c.loop-class-test.true));
}
