use Rattle.pj_cuts.proofs.CutOrder.{length_grows}
use Rattle.pj_cuts.proofs.Kept.{blocks_with, free_first}
use Rattle.pj_cuts.proofs.cuts.Cuts.add_block.Goals as goal

pub invariant_of-result : goal.invariant_of-result
invariant_of-result g c =
    rw c.in_ok-blocks.ensures.same
    (blocks_with c.self.inside.counts c.self.inside.blocks c.self.invariant c.args.first _ c.requires.some c.requires.low (rw (← c.self.view_is) at c.requires.free)
    (rw c.in_ok-blocks.ensures.same at c.in_ok-blocks.ensures.rising))

pub returns-clause-blocks : goal.returns-clause-blocks
returns-clause-blocks g c p =
    rw (c.in_ok-blocks.ensures.same, ← c.self.view_is) (length_grows c.self.inside.blocks c.args.first _ (free_first _ _ _ _ c.requires.some (rw (← c.self.view_is) at c.requires.free)) p)
