-- The graph of a list is that of every list with the same members.
use Rattle.std.proofs.Common.{List}
use Rattle.pj_change.specs.declared.graph.Graph.{Graph}
use Rattle.pj_change.specs.declared.change.Record.{Record}
use Rattle.pj_change.specs.Sets.{HaveSameMembers}
use Rattle.pj_change.specs.Graph.{IsGraph}
use Rattle.pj_change.proofs.SameSets.{back_again, vertex-same, edge-same}

pub graph_same : (S T : List Record) (g : Graph) → HaveSameMembers S T → IsGraph S g → IsGraph T g
graph_same S T g same h =
    let back = back_again S T same in
    record {
      vertices = record {
        sorted = h.vertices.sorted;
        only = λ v m. vertex-same S T same v (h.vertices.only v m);
        all = λ v p. h.vertices.all v (vertex-same T S back v p);
      };
      edges = record {
        sorted = h.edges.sorted;
        only = λ e m. edge-same S T same e (h.edges.only e m);
        all = λ e p. h.edges.all e (edge-same T S back e p);
      };
    }
