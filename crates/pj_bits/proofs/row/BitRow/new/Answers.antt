use Rattle.pj_bits.proofs.Rows.{length-row_of, clear_row}
use Rattle.pj_bits.proofs.Squares.{zeros_everywhere}
use Rattle.pj_bits.proofs.row.BitRow.new.Goals as goal

pub returns-clause-size : goal.returns-clause-size
returns-clause-size c = length-row_of c.args.n c.in_ok-words.words.items

pub returns-clause-clear : goal.returns-clause-clear
returns-clause-clear c =
    let zeros = c.in_ok-words.ensures.items_if_clones_equal (λ y e. e) in
    clear_row c.args.n c.in_ok-words.words.items (zeros_everywhere c.div_ceil.result c.in_ok-words.words.items zeros)
