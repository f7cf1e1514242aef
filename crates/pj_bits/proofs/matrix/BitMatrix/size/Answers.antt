use Rattle.std.proofs.Common.{sym}
use Rattle.pj_bits.proofs.Squares.{length-rows_of, set_bit_is_inside}
use Rattle.pj_bits.proofs.matrix.BitMatrix.size.Goals as goal

pub returns-clause-size : goal.returns-clause-size
returns-clause-size c = rw (← c.self.view_is) (sym (length-rows_of c.self.inside.size c.self.inside.width c.self.inside.words.items))

pub returns-clause-inside : goal.returns-clause-inside
returns-clause-inside c = rw (← c.self.view_is) (set_bit_is_inside c.self.inside.size c.self.inside.width c.self.inside.words.items)
