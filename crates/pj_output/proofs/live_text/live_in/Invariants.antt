use Rattle.std.proofs.Common.{◌-◌, ◌≤◌}
use Rattle.pj_output.specs.LiveText.{AreLiveIn}
use Rattle.pj_output.proofs.live_text.live_in.Given as goal

-- what begins before the offset is there
abbrev pub invariant-loop-v : goal.invariant-loop-v
invariant-loop-v l = record {
  low : l.block.first.offset ≤ l.offset;
  live : AreLiveIn l.tables l.block l.offset l.entries.items;
}

abbrev pub decreases-loop-v : goal.decreases-loop-v
decreases-loop-v l = 4294967296 - l.offset
