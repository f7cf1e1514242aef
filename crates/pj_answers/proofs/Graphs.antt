-- A lawful list has a graph.
use Rattle.std.proofs.Common.{List}
use Rattle.pj_change.specs.declared.graph.Graph.{Graph}
use Rattle.pj_change.specs.declared.change.Record.{Record}
use Rattle.pj_change.specs.Graph.{edge_cmp, IsGraph}
use Rattle.pj_change.specs.Lawful.{IsLawful}
use Rattle.pj_change.specs.RealEdges.{IsEdge}
use Rattle.pj_change.proofs.EqualEdges.{edges_tied}
use Rattle.pj_change.proofs.LawfulLists.{set_of}
use Rattle.pj_change.proofs.Orders.{edge_total}
use Rattle.pj_answers.proofs.Finite.{listed}
use Rattle.pj_answers.proofs.Vertices.{vertex_list}
use Rattle.pj_answers.proofs.Edges.{edges}

-- a lawful list has a graph
pub graph_there : (list : List Record) → IsLawful list → (g : Graph) × IsGraph list g
graph_there list lawful =
    let v = vertex_list list (set_of list lawful) in
    let e = listed edge_cmp edge_total (IsEdge list) (edges list) (λ e f a b tie. edges_tied list lawful e f a b tie) in
    (record { vertices = v.0; edges = e.0 }, record { vertices = v.1; edges = e.1 })
