use Rattle.pj_reach.specs.Reach.{AreEdgesBelow}
use Rattle.bench.proofs.layout.orders.chain.Given as goal

abbrev pub invariant-loop-class : goal.invariant-loop-class
invariant-loop-class l = AreEdgesBelow l.fn.size l.pairs.items
