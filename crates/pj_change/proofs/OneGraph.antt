-- At most one graph for a set.
use Rattle.std.proofs.Common.{◌≡◌, List}
use Rattle.pj_change.specs.declared.graph.Graph.{Graph}
use Rattle.pj_change.specs.declared.change.Record.{Record}
use Rattle.pj_change.specs.Sets.{HaveSameMembers}
use Rattle.pj_change.specs.Vertices.{IsVertex}
use Rattle.pj_change.specs.RealEdges.{IsEdge}
use Rattle.pj_change.specs.Graph.{vertex_cmp, edge_cmp, IsGraph}
use Rattle.pj_change.proofs.Listings.{one_list}
use Rattle.pj_change.proofs.Orders.{vertex_total, edge_total}
use Rattle.pj_change.proofs.SameSets.{back_again, vertex-same, edge-same}

pub one_graph : (S T : List Record) (g h : Graph) → HaveSameMembers S T → IsGraph S g → IsGraph T h → g ≡ h
one_graph S T g h same a b =
    let back = back_again S T same in
    let v = one_list vertex_cmp vertex_total (IsVertex S) (IsVertex T) (vertex-same S T same) (vertex-same T S back) g.vertices h.vertices a.vertices b.vertices in
    let e = one_list edge_cmp edge_total (IsEdge S) (IsEdge T) (edge-same S T same) (edge-same T S back) g.edges h.edges a.edges b.edges in
    λ i. record { vertices = v i; edges = e i }
