use Rattle.std.proofs.Common.{◌≡◌, length}
use Rattle.pj_print.proofs.only_order.places_in.Given as goal

abbrev pub invariant-loop-at : goal.invariant-loop-at
invariant-loop-at l = length l.places.items ≡ l.size
