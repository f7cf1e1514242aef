-- The shares so far, and those to come.
use Rattle.std.proofs.Common.{◌≡◌, ◌≤◌, ◌-◌, ◌++◌, length, vec_capacity}
use Rattle.pj_serve.specs.Shares.{shares, shares_from}
use Rattle.pj_serve.proofs.shares.shares.Given as goal

abbrev pub invariant-loop-worker : goal.invariant-loop-worker
invariant-loop-worker l = record {
  items : l.shares.items ++ shares_from l.sessions l.workers l.worker (l.workers - l.worker) ≡ shares l.sessions l.workers;
  count : length l.shares.items ≡ l.worker;
  room : l.workers ≤ vec_capacity l.shares;
}
