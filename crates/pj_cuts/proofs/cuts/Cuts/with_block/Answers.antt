use Rattle.pj_cuts.proofs.cuts.Cuts.with_block.Goals as goal

pub add_block-requires-clause-free : goal.add_block-requires-clause-free
add_block-requires-clause-free g c = λ at low high. c.requires.free at low
