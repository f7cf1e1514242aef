use Rattle.std.proofs.Common.{◌≡◌, ◌++◌, take}
use Rattle.std.specs.List.{flat_map}
use Rattle.pj_machine.specs.GraphText.{edge_line}
use Rattle.pj_machine.proofs.graphs.put_edges.Given as goal

abbrev pub invariant-loop-edge : goal.invariant-loop-edge
invariant-loop-edge l = l.out.items ≡ l.fn.out.items ++ flat_map edge_line (take l.edge-index l.edges)
