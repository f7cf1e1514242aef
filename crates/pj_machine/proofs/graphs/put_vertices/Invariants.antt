use Rattle.std.proofs.Common.{◌≡◌, ◌++◌, take}
use Rattle.std.specs.List.{flat_map}
use Rattle.pj_machine.specs.GraphText.{vertex_line}
use Rattle.pj_machine.proofs.graphs.put_vertices.Given as goal

abbrev pub invariant-loop-vertex : goal.invariant-loop-vertex
invariant-loop-vertex l = l.out.items ≡ l.fn.out.items ++ flat_map vertex_line (take l.vertex-index l.vertices)
