use Rattle.std.proofs.Common.{◌≡◌, ◌≤◌, length}
use Rattle.pj_reach.specs.Orders.{IsSound}
use Rattle.pj_reach.proofs.Rows.{DoneFrom}
use Rattle.pj_reach.proofs.order.order.Given as goal

abbrev pub invariant-loop-place : goal.invariant-loop-place
invariant-loop-place l = record {
  size_is : length l.before ≡ l.classes;
  within : l.place ≤ length l.trees.finished.items;
  sound : IsSound (length l.class_of) l.edges l.class_of l.before;
  done : DoneFrom (length l.class_of) l.edges l.class_of l.trees.finished.items l.before l.place;
}
