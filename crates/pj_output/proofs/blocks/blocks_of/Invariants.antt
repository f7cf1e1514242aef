use Rattle.std.proofs.Common.{length}
use Rattle.pj_apply.specs.Walks.{remaining}
use Rattle.pj_output.specs.Blocks.{IsBlockOf}
use Rattle.pj_output.proofs.ChangeWalks.{AreBefore}
use Rattle.pj_output.proofs.blocks.blocks_of.Given as goal

-- the blocks of the changes before the next one are added
abbrev pub invariant-loop-change : goal.invariant-loop-change
invariant-loop-change l = AreBefore IsBlockOf l.tables (remaining l.tables l.after) l.blocks.items

abbrev pub decreases-loop-change : goal.decreases-loop-change
decreases-loop-change l = length (remaining l.tables l.after)
