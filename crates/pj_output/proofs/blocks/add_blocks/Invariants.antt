use Rattle.std.proofs.Common.{◌≡◌}
use Rattle.pj_change.specs.Gathers.{Gathers, IsOfNumber}
use Rattle.pj_change.specs.Positions.{place}
use Rattle.pj_output.specs.Blocks.{IsBlockBy}
use Rattle.pj_output.proofs.blocks.add_blocks.Given as goal

-- the blocks of the first hunks are added
abbrev pub invariant-loop-hunk : goal.invariant-loop-hunk
invariant-loop-hunk l = record {
  place : l.first ≡ place l.owner.change.hunks l.hunk-index;
  added : Gathers (IsOfNumber (IsBlockBy l.owner) l.hunk-index) l.initial.blocks.items l.blocks.items;
}
