use Rattle.std.proofs.Common.{◌≡◌, ◌+◌, ◌*◌, ◌<◌, length, get_or, sym, ◌∙◌, arith}
use Rattle.std.proofs.lemmas.List.{get_or_read}
use Rattle.std.proofs.lemmas.Nat.{mul-add-lt}
use Rattle.std.proofs.Math.Nat.{mul_comm}
use Rattle.pj_bits.proofs.Rows.{square_seen}
use Rattle.pj_bits.proofs.Turning.{column_turned, all_turned}
use Rattle.pj_bits.proofs.matrix.BitMatrix.transposed.Goals as goal

pub loop-row-preserved : goal.loop-row-preserved
loop-row-preserved c =
    let there : c.loop-row.row * c.self.inside.width + c.loop-block.block < length c.self.inside.words.items =
    (let place = mul-add-lt c.loop-row.row c.self.inside.width c.loop-block.block c.self.inside.size c.loop-row-test.true (omega (arith, c.self.invariant.1, c.div_ceil-block-end.ensures, c.loop-block-test.true)) in omega (arith, place, mul_comm c.self.inside.size c.self.inside.width, c.self.invariant.0)) in
    let word : c.index-bits.result.now ≡ get_or c.self.inside.words.items (c.loop-row.row * c.self.inside.width + c.loop-block.block) 0 = get_or_read c.self.inside.words.items (c.loop-row.row * c.self.inside.width + c.loop-block.block) c.index-bits.result.now there c.index-bits.ensures 0 in
    rw (← c.self.view_is) (column_turned c.self.inside.size c.self.inside.width c.self.inside.words.items c.loop-row.turned c.set_down.new.self c.loop-block.block c.loop-row.row (omega arith) (omega arith)
    (rw c.self.view_is c.loop-row.invariant) c.index-bits.result.now word c.set_down.ensures.size c.set_down.ensures.here c.set_down.ensures.others)

pub returns-clause-size : goal.returns-clause-size
returns-clause-size c = c.loop-block.invariant.same_size ∙ sym (square_seen c.self.inside.size c.self.inside.width c.self.inside.words.items c.args.self.now c.self.view_is)

pub returns-clause-turned : goal.returns-clause-turned
returns-clause-turned c =
    rw (← c.self.view_is) (all_turned c.self.inside.size c.self.inside.width c.self.inside.words.items c.loop-block.turned c.loop-block.block (omega (arith, c.div_ceil-block-end.ensures)) (rw c.self.view_is c.loop-block.invariant))
