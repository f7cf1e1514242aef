use Rattle.std.proofs.Common.{◌≡◌, ◌≤◌, ◌-◌, take, drop}
use Rattle.std.specs.Prelude.{sum_by}
use Rattle.pj_change.specs.Rules.{position_count}
use Rattle.pj_change.specs.Positions.{kind_from, kind_at as kind_of}
use Rattle.pj_change.proofs.positions.kind_at.Given as goal

abbrev pub invariant-loop-number : goal.invariant-loop-number
invariant-loop-number l = record {
  first : l.first ≡ sum_by position_count (take l.number l.hunk-items);
  before : l.first ≤ l.offset;
  found : kind_of l.change.hunks l.offset ≡ kind_from l.number l.first (drop l.number l.hunk-items) (l.offset - l.first);
}
