use Rattle.std.proofs.Common.{◌≡◌, ◌+◌, ◌-◌, ◌<◌, length, get_or, sym, ◌∙◌, ap, subst, arith}
use Rattle.std.proofs.lemmas.List.{get_or_read}
use Rattle.pj_reach.proofs.Rows.{DoneFrom, later_full, all_ordered}
use Rattle.pj_reach.proofs.order.order.Goals as goal

pub follow-requires-clause-full : goal.follow-requires-clause-full
follow-requires-clause-full c =
    let inside : c.loop-place.place - 1 < length c.args.trees.now.finished.items = omega (arith, c.loop-place-test.true, c.loop-place.invariant.within) in
    let here : c.index.result.now ≡ get_or c.args.trees.now.finished.items (c.loop-place.place - 1) 0 = get_or_read c.args.trees.now.finished.items (c.loop-place.place - 1) c.index.result.now inside c.index.ensures 0 in
    let next : c.loop-place.place - 1 + 1 ≡ c.loop-place.place = omega (arith, c.loop-place-test.true) in
    let done : DoneFrom (length c.args.class_of.now) c.args.edges.now c.args.class_of.now c.args.trees.now.finished.items c.loop-place.before (c.loop-place.place - 1 + 1) = subst (λ p. DoneFrom (length c.args.class_of.now) c.args.edges.now c.args.class_of.now c.args.trees.now.finished.items c.loop-place.before p) (sym next) c.loop-place.invariant.done in
    λ e f e_in from f_in same apart.
    later_full (length c.args.class_of.now) c.args.edges.now c.args.class_of.now c.args.classes c.requires.graph c.requires.classes c.args.trees.now.tree_of.items c.args.trees.now.finished.items c.requires.trees c.loop-place.before (c.loop-place.place - 1) inside done e f e_in (from ∙ here) f_in same
    (λ at_vertex. apart (at_vertex ∙ sym (ap (λ v. get_or c.args.class_of.now v 0) here)))

pub returns-clause-order : goal.returns-clause-order
returns-clause-order c =
    let none_left : c.loop-place.place ≡ 0 = omega arith in
    all_ordered (length c.args.class_of.now) c.args.edges.now c.args.class_of.now c.args.classes c.requires.graph c.requires.classes c.args.trees.now.tree_of.items c.args.trees.now.finished.items c.requires.trees c.loop-place.before c.loop-place.invariant.sound
    (subst (λ p. DoneFrom (length c.args.class_of.now) c.args.edges.now c.args.class_of.now c.args.trees.now.finished.items c.loop-place.before p) none_left c.loop-place.invariant.done)
