use Rattle.std.proofs.Common.{◌*◌}
use Rattle.pj_bits.proofs.Squares.{length-rows_of, zeros_everywhere, clear_bit}
use Rattle.pj_bits.proofs.matrix.BitMatrix.new.Goals as goal

pub returns-clause-size : goal.returns-clause-size
returns-clause-size c = length-rows_of c.args.n c.div_ceil-width.result c.in_ok-words.words.items

pub returns-clause-clear : goal.returns-clause-clear
returns-clause-clear c =
    let zeros = c.in_ok-words.ensures.items_if_clones_equal (λ y e. e) in
    clear_bit c.args.n c.div_ceil-width.result c.in_ok-words.words.items (zeros_everywhere (c.args.n * c.div_ceil-width.result) c.in_ok-words.words.items zeros)
