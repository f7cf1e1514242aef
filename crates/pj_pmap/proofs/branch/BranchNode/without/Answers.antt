use Rattle.std.proofs.Common.{arith}
use Rattle.pj_pmap.proofs.Leaves.{full_is}
use Rattle.pj_pmap.proofs.branch.BranchNode.without.Goals as goal

pub over-requires-clause-node : goal.over-requires-clause-node
over-requires-clause-node g c =
    let few = c.in_ok-nodes.ensures.few in
    let was = c.self.invariant.1.few in
    record { some = full_is c.is_empty.ensures c.if-is_empty.false c.in_ok-nodes.nodes.ok.0; few = omega (arith, few, was) }
