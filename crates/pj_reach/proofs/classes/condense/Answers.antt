use Rattle.std.proofs.Common.{◌≡◌, ◌<◌, map, reverse, length, ◌∙◌, subst, arith}
use Rattle.pj_reach.specs.Forest.{IsForest}
use Rattle.pj_reach.specs.Classes.{turned_edge}
use Rattle.pj_reach.proofs.Condensing.{condensed, graph_turned, among_reverse}
use Rattle.pj_reach.proofs.classes.condense.Goals as goal

pub search-requires-clause-roots_few : goal.search-requires-clause-roots_few
search-requires-clause-roots_few c = rw c.as_slice.ensures.value (omega (arith, c.in_ok-all.ensures.len))

pub search-requires-clause-roots_in : goal.search-requires-clause-roots_in
search-requires-clause-roots_in c = rw c.as_slice.ensures.value (λ k h. let at = c.in_ok-all.ensures.each k h in omega (arith, h, at, c.in_ok-all.ensures.len))

pub search-requires-clause-each_is_root : goal.search-requires-clause-each_is_root
search-requires-clause-each_is_root c = rw c.as_slice.ensures.value (λ v h. let v_in : v < length c.in_ok-all.all.items = omega (arith, h, c.in_ok-all.ensures.len) in (v, v_in, c.in_ok-all.ensures.each v v_in))

pub link-requires : goal.link-requires
link-requires c = rw (c.as_slice-against.ensures.value, c.in_ok-turned.ensures) (graph_turned c.args.size c.args.edges.now c.requires.graph)

pub search-requires-2-clause-graph : goal.search-requires-2-clause-graph
search-requires-2-clause-graph c = rw (c.as_slice-against.ensures.value, c.in_ok-turned.ensures) (graph_turned c.args.size c.args.edges.now c.requires.graph)

pub search-requires-2-clause-each_is_root : goal.search-requires-2-clause-each_is_root
search-requires-2-clause-each_is_root c = rw (c.as_slice-2.ensures.value, c.reverse.ensures.items) (λ v h. among_reverse c.in_ok-roots.field-0.finished.items v (c.in_ok-roots.ensures.all_finished v h))

pub returns : goal.returns
returns c =
    let roots_are : c.as_slice-2.result.now ≡ reverse c.in_ok-roots.field-0.finished.items = c.as_slice-2.ensures.value ∙ c.reverse.ensures.items in
    let edges_are : c.as_slice-against.result.now ≡ map turned_edge c.args.edges.now = c.as_slice-against.ensures.value ∙ c.in_ok-turned.ensures in
    let against : IsForest c.args.size (map turned_edge c.args.edges.now) (reverse c.in_ok-roots.field-0.finished.items) c.in_ok-trees.trees.tree_of.items c.in_ok-trees.trees.finished.items =
    subst (λ es. IsForest c.args.size es (reverse c.in_ok-roots.field-0.finished.items) c.in_ok-trees.trees.tree_of.items c.in_ok-trees.trees.finished.items) edges_are
    (subst (λ rs. IsForest c.args.size c.as_slice-against.result.now rs c.in_ok-trees.trees.tree_of.items c.in_ok-trees.trees.finished.items) roots_are c.in_ok-trees.ensures) in
    condensed c.args.size c.args.edges.now c.requires.graph c.as_slice.result.now c.in_ok-roots.field-0.tree_of.items c.in_ok-roots.field-0.finished.items c.in_ok-trees.trees.tree_of.items c.in_ok-trees.trees.finished.items c.in_ok-roots.ensures against
