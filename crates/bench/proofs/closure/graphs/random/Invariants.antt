use Rattle.pj_reach.specs.Reach.{AreEdgesBelow}
use Rattle.bench.proofs.closure.graphs.random.Given as goal

abbrev pub invariant-loop : goal.invariant-loop
invariant-loop l = AreEdgesBelow 16384 l.edges.items
