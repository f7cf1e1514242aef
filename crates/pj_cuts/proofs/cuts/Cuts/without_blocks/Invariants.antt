use Rattle.std.proofs.Common.{◌≡◌, ◌≤◌, ◌+◌, cond, take}
use Rattle.pj_name.specs.Name.{same_name}
use Rattle.pj_change.specs.declared.point.Point.{Point}
use Rattle.pj_change.specs.Positions.{place}
use Rattle.pj_cuts.specs.Counted.{length_at}
use Rattle.pj_cuts.specs.CutsOf.{block_from}
use Rattle.pj_cuts.proofs.cuts.Cuts.without_blocks.Given as goal

-- the blocks of the first hunks are gone
abbrev pub invariant-loop-hunk : goal.invariant-loop-hunk
invariant-loop-hunk g l = record {
  place : l.first ≡ place l.«record».change.hunks l.hunk-index;
  blocks : (p : Point) → length_at l.now p + cond (same_name l.«record».name p.change) (block_from 0 (take l.hunk-index l.«record».change.hunks) p.offset) 0 ≡ length_at l.fn.self p;
  counts : l.now.counts ≡ l.fn.self.counts;
  cost : l.steps ≤ l.fn.steps + l.hunk-index;
}
