use Rattle.pj_reach.specs.Reach.{AreEdgesBelow}
use Rattle.bench.proofs.layout.orders.random.Given as goal

abbrev pub invariant-loop : goal.invariant-loop
invariant-loop l = AreEdgesBelow l.fn.size l.pairs.items
