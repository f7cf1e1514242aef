use Rattle.std.proofs.Common.{◌≡◌, ◌+◌, ◌*◌, ◌≤◌, length, take}
use Rattle.std.specs.Prelude.{sum_by}
use Rattle.pj_change.specs.Text.{reference}
use Rattle.pj_change.proofs.length.references_length.Given as goal

abbrev pub invariant-loop-at : goal.invariant-loop-at
invariant-loop-at l = record {
  so_far : l.length ≡ sum_by (λ at. length (reference at) + 1) (take l.at-index l.refs);
  least : l.at-index ≤ l.length;
  few : l.length ≤ 42 * l.at-index;
}
