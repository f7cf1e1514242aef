use Rattle.std.proofs.Common.{◌+◌, sym, subst}
use Rattle.pj_cuts.specs.Counted.{Counted, IsFree}
use Rattle.test_tables.proofs.operations.cuts.CutCases.add_block.Goals as goal

pub add_block-requires-clause-free : goal.add_block-requires-clause-free
add_block-requires-clause-free g c =
    subst (λ (t : Counted). IsFree t c.args.first.change c.args.first.offset (c.args.first.offset + c.args.length)) (sym c.give_up.ensures)
    (c.is_free.ensures c.if-not-is_free.false)
