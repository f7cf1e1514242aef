use Rattle.std.proofs.Common.{arith}
use Rattle.pj_change.proofs.PlaceLemmas.{few_before}
use Rattle.pj_change.proofs.positions.place.Goals as goal

pub overflow_cast-first : goal.overflow_cast-first
overflow_cast-first c = omega (arith, few_before c.args.change.now c.items.result.now c.args.hunk c.loop-hunk.hunk-index c.hunk-item.result c.items.ensures c.hunk-item.is c.loop-hunk-test.true, c.position_count.ensures)

pub overflow_add-first : goal.overflow_add-first
overflow_add-first c = omega (arith, few_before c.args.change.now c.items.result.now c.args.hunk c.loop-hunk.hunk-index c.hunk-item.result c.items.ensures c.hunk-item.is c.loop-hunk-test.true, c.position_count.ensures)
