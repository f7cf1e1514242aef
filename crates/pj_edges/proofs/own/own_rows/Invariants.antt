use Rattle.std.proofs.Common.{◌≡◌, take}
use Rattle.pj_change.specs.Positions.{place}
use Rattle.pj_edges.specs.OwnRows.{rows_from}
use Rattle.pj_edges.proofs.own.own_rows.Given as goal

-- the rows of the first hunks are there
abbrev pub invariant-loop-hunk : goal.invariant-loop-hunk
invariant-loop-hunk l = record {
  place : l.first ≡ place l.«record».change.hunks l.hunk-index;
  rows : l.rows.items ≡ rows_from l.«record» 0 (take l.hunk-index l.«record».change.hunks);
}
