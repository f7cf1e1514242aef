use Rattle.std.proofs.Common.{◌≡◌, ◌≤◌, ◌+◌, take}
use Rattle.pj_rows.specs.Keys.{number_at, times, AllCounted}
use Rattle.pj_rows.proofs.counts.lower_each.Given as goal

abbrev pub invariant-loop-key : goal.invariant-loop-key
invariant-loop-key g l = record {
  counts : (q : _) → number_at g.K.Ord.cmp q l.now + times g.K.Ord.cmp q (take l.key-index l.keys) ≡ number_at g.K.Ord.cmp q l.fn.map;
  counted : AllCounted g.K.Ord.cmp l.now;
  cost : l.steps ≤ l.fn.steps + l.key-index;
}
