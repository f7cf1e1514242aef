use Rattle.std.proofs.Common.{◌≡◌, ◌+◌, ◌*◌, ◌≤◌, length, take}
use Rattle.std.specs.Prelude.{decimal, sum_by}
use Rattle.pj_change.proofs.length.owners_length.Given as goal

abbrev pub invariant-loop-owner : goal.invariant-loop-owner
invariant-loop-owner l = record {
  so_far : l.length ≡ sum_by (λ k. length (decimal k) + 1) (take l.owner-index l.by);
  least : l.owner-index ≤ l.length;
  few : l.length ≤ 21 * l.owner-index;
}
