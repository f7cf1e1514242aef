use Rattle.std.proofs.Common.{◌≡◌, ◌≤◌, ◌+◌, ◌||◌, take}
use Rattle.pj_pmap.specs.Pairs.{IsRising}
use Rattle.pj_rows.specs.Keys.{has, is_among}
use Rattle.pj_rows.proofs.rows.with_keys.Given as goal

abbrev pub invariant-loop-key : goal.invariant-loop-key
invariant-loop-key g l = record {
  rows : (q : _) → has g.K.Ord.cmp q l.now ≡ (is_among g.K.Ord.cmp q (take l.key-index l.keys) || has g.K.Ord.cmp q l.fn.map);
  rising : IsRising g.K.Ord.cmp l.now;
  cost : l.steps ≤ l.fn.steps + l.key-index;
}
