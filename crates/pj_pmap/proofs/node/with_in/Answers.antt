use Rattle.std.proofs.Common.{◌∙◌, ◌+◌, ◌++◌, [], ◌∷◌, take, Some, ap, refl, arith}
use Rattle.std.specs.Option.{option_to_list}
use Rattle.pj_pmap.specs.Nodes.{pairs_of}
use Rattle.pj_pmap.specs.Pairs.{with_pair}
use Rattle.pj_pmap.proofs.Chosen.{value_in}
use Rattle.pj_pmap.proofs.Rising.{IsRising-with}
use Rattle.pj_pmap.proofs.Splices.{to_end, over_two, with_spliced, spliced_nodes, level_from, length-option, length_same, length_changed}
use Rattle.pj_pmap.proofs.node.with_in.Goals as goal

pub merged_at-requires-clause-level : goal.merged_at-requires-clause-level
merged_at-requires-clause-level g c =
    let chosen = rw c.deref.ensures.value at c.choose-at.ensures in
    let same = to_end c.args.nodes.items c.in_ok-list.list.items (take c.choose-at.result c.args.nodes.items ++ (c.in_ok-first-2.first ∷ []) ++ option_to_list c.in_ok-second.second) (c.choose-at.result + 1) (c.in_ok-list.ensures c.args.nodes.items _ chosen.in_range c.swap_remove.ensures.items) in
    level_from _ _ (IsRising-with g.K.Ord.cmp g.met.K.Ord.total c.args.key (g.V.Share.shown c.args.value) _ c.requires.level.rising)
    (with_spliced (pairs_of g.N.Node.pairs) g.N.Node.most c.args.nodes.items chosen c.swap_remove.ensures.value refl c.in_ok-list.list.items (Some c.in_ok-first-2.first) c.in_ok-second.second same (g.V.Share.shown c.args.value)
    (over_two g.N.Node.pairs _ _ _ _ _ c.in_ok-first-2.ensures c.in_ok-second.ensures.same (c.in_ok-first.ensures.same ∙ ap (with_pair g.K.Ord.cmp c.args.key (g.V.Share.shown c.args.value)) c.in_ok-node.ensures)))
    (spliced_nodes (pairs_of g.N.Node.pairs) g.N.Node.most c.args.nodes.items _ _ c.in_ok-list.list.items (Some c.in_ok-first-2.first) c.in_ok-second.second same c.requires.level.nodes (rw c.in_ok-first-2.ensures c.in_ok-first.ensures.first) (c.in_ok-second.ensures.node _ c.in_ok-first.ensures.second))

pub returns-clause-same : goal.returns-clause-same
returns-clause-same g c =
    let chosen = rw c.deref.ensures.value at c.choose-at.ensures in
    let same = to_end c.args.nodes.items c.in_ok-list.list.items (take c.choose-at.result c.args.nodes.items ++ (c.in_ok-first-2.first ∷ []) ++ option_to_list c.in_ok-second.second) (c.choose-at.result + 1) (c.in_ok-list.ensures c.args.nodes.items _ chosen.in_range c.swap_remove.ensures.items) in
    c.in_ok-merged.ensures.same
    ∙ with_spliced (pairs_of g.N.Node.pairs) g.N.Node.most c.args.nodes.items chosen c.swap_remove.ensures.value refl c.in_ok-list.list.items (Some c.in_ok-first-2.first) c.in_ok-second.second same (g.V.Share.shown c.args.value)
    (over_two g.N.Node.pairs _ _ _ _ _ c.in_ok-first-2.ensures c.in_ok-second.ensures.same (c.in_ok-first.ensures.same ∙ ap (with_pair g.K.Ord.cmp c.args.key (g.V.Share.shown c.args.value)) c.in_ok-node.ensures))

pub returns-clause-level : goal.returns-clause-level
returns-clause-level g c =
    level_from _ _ (IsRising-with g.K.Ord.cmp g.met.K.Ord.total c.args.key (g.V.Share.shown c.args.value) _ c.requires.level.rising)
    (returns-clause-same g c)
    c.in_ok-merged.ensures.nodes

pub returns-clause-few : goal.returns-clause-few
returns-clause-few g c =
    let chosen = rw c.deref.ensures.value at c.choose-at.ensures in
    let same = to_end c.args.nodes.items c.in_ok-list.list.items (take c.choose-at.result c.args.nodes.items ++ (c.in_ok-first-2.first ∷ []) ++ option_to_list c.in_ok-second.second) (c.choose-at.result + 1) (c.in_ok-list.ensures c.args.nodes.items _ chosen.in_range c.swap_remove.ensures.items) in
    let changed = length_changed c.args.nodes.items c.in_ok-list.list.items c.choose-at.result _ _ chosen.in_range (length_same c.in_ok-list.list.items _ _ (Some c.in_ok-first-2.first) c.in_ok-second.second same) in
    let second = length-option c.in_ok-second.second in
    let few = c.in_ok-merged.ensures.few in
    omega (arith, changed, second, few)

pub returns-clause-new : goal.returns-clause-new
returns-clause-new g c =
    let chosen = rw c.deref.ensures.value at c.choose-at.ensures in
    rw (value_in (pairs_of g.N.Node.pairs) g.N.Node.most c.args.nodes.items chosen c.swap_remove.ensures.value refl, ← c.in_ok-node.ensures) c.in_ok-first.ensures.new

pub returns-then-not-is_split-clause-same : goal.returns-then-not-is_split-clause-same
returns-then-not-is_split-clause-same g c =
    let chosen = rw c.deref.ensures.value at c.choose-at.ensures in
    let same = to_end c.args.nodes.items c.in_ok-list.list.items (take c.choose-at.result c.args.nodes.items ++ (c.in_ok-first-2.first ∷ []) ++ option_to_list c.in_ok-second.second) (c.choose-at.result + 1) (c.in_ok-list.ensures c.args.nodes.items _ chosen.in_range c.swap_remove.ensures.items) in
    with_spliced (pairs_of g.N.Node.pairs) g.N.Node.most c.args.nodes.items chosen c.swap_remove.ensures.value refl c.in_ok-list.list.items (Some c.in_ok-first-2.first) c.in_ok-second.second same (g.V.Share.shown c.args.value)
    (over_two g.N.Node.pairs _ _ _ _ _ c.in_ok-first-2.ensures c.in_ok-second.ensures.same (c.in_ok-first.ensures.same ∙ ap (with_pair g.K.Ord.cmp c.args.key (g.V.Share.shown c.args.value)) c.in_ok-node.ensures))

pub returns-then-not-is_split-clause-level : goal.returns-then-not-is_split-clause-level
returns-then-not-is_split-clause-level g c =
    let chosen = rw c.deref.ensures.value at c.choose-at.ensures in
    let same = to_end c.args.nodes.items c.in_ok-list.list.items (take c.choose-at.result c.args.nodes.items ++ (c.in_ok-first-2.first ∷ []) ++ option_to_list c.in_ok-second.second) (c.choose-at.result + 1) (c.in_ok-list.ensures c.args.nodes.items _ chosen.in_range c.swap_remove.ensures.items) in
    level_from _ _ (IsRising-with g.K.Ord.cmp g.met.K.Ord.total c.args.key (g.V.Share.shown c.args.value) _ c.requires.level.rising)
    (with_spliced (pairs_of g.N.Node.pairs) g.N.Node.most c.args.nodes.items chosen c.swap_remove.ensures.value refl c.in_ok-list.list.items (Some c.in_ok-first-2.first) c.in_ok-second.second same (g.V.Share.shown c.args.value)
    (over_two g.N.Node.pairs _ _ _ _ _ c.in_ok-first-2.ensures c.in_ok-second.ensures.same (c.in_ok-first.ensures.same ∙ ap (with_pair g.K.Ord.cmp c.args.key (g.V.Share.shown c.args.value)) c.in_ok-node.ensures)))
    (spliced_nodes (pairs_of g.N.Node.pairs) g.N.Node.most c.args.nodes.items _ _ c.in_ok-list.list.items (Some c.in_ok-first-2.first) c.in_ok-second.second same c.requires.level.nodes (rw c.in_ok-first-2.ensures c.in_ok-first.ensures.first) (c.in_ok-second.ensures.node _ c.in_ok-first.ensures.second))

pub returns-then-not-is_split-clause-few : goal.returns-then-not-is_split-clause-few
returns-then-not-is_split-clause-few g c =
    let chosen = rw c.deref.ensures.value at c.choose-at.ensures in
    let same = to_end c.args.nodes.items c.in_ok-list.list.items (take c.choose-at.result c.args.nodes.items ++ (c.in_ok-first-2.first ∷ []) ++ option_to_list c.in_ok-second.second) (c.choose-at.result + 1) (c.in_ok-list.ensures c.args.nodes.items _ chosen.in_range c.swap_remove.ensures.items) in
    let changed = length_changed c.args.nodes.items c.in_ok-list.list.items c.choose-at.result _ _ chosen.in_range (length_same c.in_ok-list.list.items _ _ (Some c.in_ok-first-2.first) c.in_ok-second.second same) in
    let second = length-option c.in_ok-second.second in
    omega (arith, changed, second)

pub returns-then-not-is_split-clause-new : goal.returns-then-not-is_split-clause-new
returns-then-not-is_split-clause-new g c =
    let chosen = rw c.deref.ensures.value at c.choose-at.ensures in
    rw (value_in (pairs_of g.N.Node.pairs) g.N.Node.most c.args.nodes.items chosen c.swap_remove.ensures.value refl, ← c.in_ok-node.ensures) c.in_ok-first.ensures.new
