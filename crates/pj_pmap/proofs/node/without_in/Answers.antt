use Rattle.std.proofs.Common.{◌∙◌, ap, refl, None, append-nil, arith}
use Rattle.pj_pmap.specs.Nodes.{pairs_of}
use Rattle.pj_pmap.specs.Pairs.{without_key}
use Rattle.pj_pmap.proofs.Rising.{IsRising-without}
use Rattle.pj_pmap.proofs.Splices.{left_in, without_spliced, spliced_nodes, level_from, length-option, length_same, length_changed}
use Rattle.pj_pmap.proofs.node.without_in.Goals as goal

pub merged_round-requires-clause-level : goal.merged_round-requires-clause-level
merged_round-requires-clause-level g c =
    let chosen = rw c.deref.ensures.value at c.choose-at.ensures in
    let same = left_in c.args.nodes.items c.in_ok-list.list.items c.choose-at.result c.in_ok-left.left (c.in_ok-list.ensures.same c.args.nodes.items _ chosen.in_range c.swap_remove.ensures.items) in
    level_from _ _ (IsRising-without g.K.Ord.cmp c.args.key.now _ c.requires.level.rising)
    (without_spliced (pairs_of g.N.Node.pairs) g.N.Node.most c.args.nodes.items chosen c.swap_remove.ensures.value refl c.in_ok-list.list.items c.in_ok-left.left None same
    (append-nil (pairs_of (pairs_of g.N.Node.pairs) c.in_ok-left.left) ∙ c.in_ok-left.ensures.same ∙ c.in_ok-without.ensures.same ∙ ap (without_key g.K.Ord.cmp c.args.key.now) c.in_ok-node.ensures))
    (spliced_nodes (pairs_of g.N.Node.pairs) g.N.Node.most c.args.nodes.items _ _ c.in_ok-list.list.items c.in_ok-left.left None same c.requires.level.nodes (c.in_ok-left.ensures.node _ c.in_ok-without.ensures.node) tt)

pub returns-clause-same : goal.returns-clause-same
returns-clause-same g c =
    let chosen = rw c.deref.ensures.value at c.choose-at.ensures in
    let same = left_in c.args.nodes.items c.in_ok-list.list.items c.choose-at.result c.in_ok-left.left (c.in_ok-list.ensures.same c.args.nodes.items _ chosen.in_range c.swap_remove.ensures.items) in
    c.in_ok-merged.ensures.same
    ∙ without_spliced (pairs_of g.N.Node.pairs) g.N.Node.most c.args.nodes.items chosen c.swap_remove.ensures.value refl c.in_ok-list.list.items c.in_ok-left.left None same
    (append-nil (pairs_of (pairs_of g.N.Node.pairs) c.in_ok-left.left) ∙ c.in_ok-left.ensures.same ∙ c.in_ok-without.ensures.same ∙ ap (without_key g.K.Ord.cmp c.args.key.now) c.in_ok-node.ensures)

pub returns-clause-level : goal.returns-clause-level
returns-clause-level g c =
    level_from _ _ (IsRising-without g.K.Ord.cmp c.args.key.now _ c.requires.level.rising)
    (returns-clause-same g c)
    c.in_ok-merged.ensures.nodes

pub returns-clause-few : goal.returns-clause-few
returns-clause-few g c =
    let chosen = rw c.deref.ensures.value at c.choose-at.ensures in
    let same = left_in c.args.nodes.items c.in_ok-list.list.items c.choose-at.result c.in_ok-left.left (c.in_ok-list.ensures.same c.args.nodes.items _ chosen.in_range c.swap_remove.ensures.items) in
    let changed = length_changed c.args.nodes.items c.in_ok-list.list.items c.choose-at.result _ _ chosen.in_range (length_same c.in_ok-list.list.items _ _ c.in_ok-left.left None same) in
    let left = length-option c.in_ok-left.left in
    let few = c.in_ok-merged.ensures.few in
    omega (arith, changed, left, few)
