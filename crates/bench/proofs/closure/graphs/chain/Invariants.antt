use Rattle.pj_reach.specs.Reach.{AreEdgesBelow}
use Rattle.bench.proofs.closure.graphs.chain.Given as goal

abbrev pub invariant-loop : goal.invariant-loop
invariant-loop l = AreEdgesBelow 16384 l.edges.items

abbrev pub invariant-loop-at : goal.invariant-loop-at
invariant-loop-at l = AreEdgesBelow 16384 l.edges.items
