use Rattle.std.proofs.Common.{sym, ap, ◌∙◌, map, take, set, true, ◌++◌, ◌∷◌, []}
use Rattle.std.proofs.lemmas.List.{take_more}
use Rattle.pj_tree.specs.Frames.{has_name}
use Rattle.pj_tree.proofs.Flags.{none_named, named_more}
use Rattle.pj_tree.proofs.inodes.named.Goals as goal

pub loop-pairing-init : goal.loop-pairing-init
loop-pairing-init c = c.in_ok-named.ensures.items_if_clones_equal (λ y e. e) ∙ none_named c.args.inodes.now

pub loop-pairing-preserved : goal.loop-pairing-preserved
loop-pairing-preserved c =
    let k = c.index_of-index.result in
    let i = c.loop-pairing.pairing-index in
    let e = c.pairing-item.result in
    ap (λ l. set l k true) c.loop-pairing.invariant
    ∙ named_more c.args.inodes.now (take i c.args.pairings.now) e k c.requires.sorted c.index_of-index.ensures.within (c.index_of-index.ensures.at _)
    ∙ ap (λ es. map (λ i. has_name es i.at) c.args.inodes.now) (ap (λ x. take i c.args.pairings.now ++ x ∷ []) c.pairing-item.is ∙ sym (take_more c.args.pairings.now i e c.loop-pairing-test.true))
