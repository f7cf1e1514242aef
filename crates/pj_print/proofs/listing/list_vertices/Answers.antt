use Rattle.std.proofs.Common.{rules}
use Rattle.std.specs.List.Sorted.{IsSorted}
use Rattle.std.specs.Ordering.{eq_by_cmp, is_lt}
use Rattle.std.proofs.lemmas.Fn.{dedup_same}
use Rattle.std.proofs.lemmas.List.Sorted.{answers_always, ranks_by}
use Rattle.pj_change.specs.declared.graph.Vertex.{Vertex}
use Rattle.pj_change.specs.Graph.{vertex_cmp}
use Rattle.pj_change.proofs.Orders.{vertex_total}
use Rattle.pj_change.proofs.Listings.{listed}
use Rattle.pj_print.proofs.listing.list_vertices.Goals as goal

pub returns : goal.returns
returns c =
    let list = c.sort_unstable_by.new.self.items in
    let up : IsSorted vertex_cmp list = c.sort_unstable_by.ensures.sorted (λ v w. is_lt (vertex_cmp v w)) (ranks_by vertex_total (λ (v : Vertex). v)) (answers_always _ _ _ (λ f a r f' k. search rules)) in
    listed vertex_cmp vertex_total c.args.vertices.now.items list c.dedup_by.new.self.items c.requires c.sort_unstable_by.ensures.permutation up
    (dedup_same _ (eq_by_cmp vertex_cmp) _ (λ x y b f' x' y' k. search rules) list _ c.dedup_by.ensures.filtered)
