-- The lines so far, and those of the other hunks, are all lines.
use Rattle.std.proofs.Common.{◌≡◌, ◌++◌, take, drop}
use Rattle.std.specs.Prelude.{sum_by}
use Rattle.pj_change.specs.Rules.{position_count}
use Rattle.pj_change.specs.Shown.{shown_from}
use Rattle.pj_serve.proofs.show.add_hunks.Given as goal

abbrev pub invariant-loop-number : goal.invariant-loop-number
invariant-loop-number l = record {
  lines : l.lines.items ++ shown_from l.number l.first (drop l.number l.hunk-items) ≡ l.initial.lines.items ++ shown_from 0 0 l.hunk-items;
  first : l.first ≡ sum_by position_count (take l.number l.hunk-items);
}
