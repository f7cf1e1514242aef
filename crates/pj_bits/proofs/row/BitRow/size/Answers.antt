use Rattle.std.proofs.Common.{sym}
use Rattle.pj_bits.proofs.Rows.{length-row_of, set_bit_inside}
use Rattle.pj_bits.proofs.row.BitRow.size.Goals as goal

pub returns-clause-size : goal.returns-clause-size
returns-clause-size c = rw (← c.self.view_is) (sym (length-row_of c.self.inside.size c.self.inside.words.items))

pub returns-clause-inside : goal.returns-clause-inside
returns-clause-inside c = rw (← c.self.view_is) (set_bit_inside c.self.inside.size c.self.inside.words.items)
