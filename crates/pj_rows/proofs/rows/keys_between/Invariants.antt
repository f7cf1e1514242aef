use Rattle.std.proofs.Common.{◌≡◌, ◌++◌, length}
use Rattle.pj_rows.specs.Keys.{keys_from, keys_in}
use Rattle.pj_rows.proofs.rows.keys_between.Given as goal

abbrev pub invariant-loop-next : goal.invariant-loop-next
invariant-loop-next g l = record {
  same : l.rows ≡ l.map;
  keys : l.keys.items ++ keys_from g.K.Ord.cmp l.below l.map l.next ≡ keys_in g.K.Ord.cmp l.above l.below l.map;
}

abbrev pub decreases-loop-next : goal.decreases-loop-next
decreases-loop-next g l = length (keys_from g.K.Ord.cmp l.below l.map l.next)
