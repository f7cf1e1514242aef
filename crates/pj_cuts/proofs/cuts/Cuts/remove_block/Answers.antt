use Rattle.pj_cuts.specs.Counted.{key}
use Rattle.pj_cuts.proofs.CutOrder.{length_falls}
use Rattle.pj_cuts.proofs.Kept.{blocks_without}
use Rattle.pj_cuts.proofs.cuts.Cuts.remove_block.Goals as goal

pub invariant_of-result : goal.invariant_of-result
invariant_of-result g c =
    rw c.in_ok-blocks.ensures.same
    (blocks_without c.self.inside.counts c.self.inside.blocks c.self.invariant (key c.args.first) (rw c.in_ok-blocks.ensures.same at c.in_ok-blocks.ensures.rising))

pub returns-clause-blocks : goal.returns-clause-blocks
returns-clause-blocks g c p =
    rw (c.in_ok-blocks.ensures.same, ← c.self.view_is) (length_falls c.self.inside.blocks c.args.first c.self.invariant.blocks_rise p)
