use Rattle.std.proofs.Common.{arith}
use Rattle.pj_bits.proofs.Rows.{next_seen}
use Rattle.pj_bits.proofs.row.BitRow.next.Goals as goal

pub next_bit-requires : goal.next_bit-requires
next_bit-requires c = omega (arith, c.self.invariant, c.as_slice.ensures.len, c.self.inside.words.ok.0)

pub returns : goal.returns
returns c = next_seen c.self.inside.size c.args.from c.self.inside.words.items c.args.self.now c.self.view_is c.next_bit.result (rw c.as_slice.ensures.value at c.next_bit.ensures)
