use Rattle.pj_print.specs.OnlyOrder.{IsInverse}
use Rattle.pj_print.proofs.only_order.is_inverse.Given as goal

abbrev pub invariant-loop-number : goal.invariant-loop-number
invariant-loop-number l = IsInverse l.number l.one l.other
