use Rattle.std.proofs.Common.{◌≡◌}
use Rattle.pj_change.specs.Positions.{place}
use Rattle.pj_change.specs.Gathers.{Gathers}
use Rattle.pj_change.specs.Shared.{records}
use Rattle.pj_change.proofs.GatheredEdges.{IsSaidBelow}
use Rattle.pj_plain.proofs.edges.add_edges.Given as goal

-- the edges of the first hunks are added
abbrev pub invariant-loop-hunk : goal.invariant-loop-hunk
invariant-loop-hunk l = record {
  place : l.first ≡ place l.r.change.hunks l.hunk-index;
  added : Gathers (IsSaidBelow (records l.changes) l.r l.hunk-index) l.initial.edges.items l.edges.items;
}
