use Rattle.std.proofs.Common.{rules}
use Rattle.std.specs.List.Sorted.{IsSorted}
use Rattle.std.specs.Ordering.{eq_by_cmp, is_lt}
use Rattle.std.proofs.lemmas.Fn.{dedup_same}
use Rattle.std.proofs.lemmas.List.Sorted.{answers_always, ranks_by}
use Rattle.pj_change.specs.declared.graph.Edge.{Edge}
use Rattle.pj_change.specs.Graph.{edge_cmp}
use Rattle.pj_change.proofs.Orders.{edge_total}
use Rattle.pj_change.proofs.Listings.{listed}
use Rattle.pj_plain.proofs.listing.list_edges.Goals as goal

pub returns : goal.returns
returns c =
    let list = c.sort_unstable_by.new.self.items in
    let up : IsSorted edge_cmp list = c.sort_unstable_by.ensures.sorted (λ v w. is_lt (edge_cmp v w)) (ranks_by edge_total (λ (v : Edge). v)) (answers_always _ _ _ (λ f a r f' k. search rules)) in
    listed edge_cmp edge_total c.args.edges.now.items list c.dedup_by.new.self.items c.requires c.sort_unstable_by.ensures.permutation up
    (dedup_same _ (eq_by_cmp edge_cmp) _ (λ x y b f' x' y' k. search rules) list _ c.dedup_by.ensures.filtered)
