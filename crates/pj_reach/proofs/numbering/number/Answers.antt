use Rattle.std.proofs.Common.{◌≡◌, ◌<◌, None, length, get_or, sym, ◌∙◌, subst, arith}
use Rattle.std.proofs.lemmas.List.{get_or_read}
use Rattle.pj_reach.proofs.Numbers.{Numbers, old_number, new_number, all_numbered}
use Rattle.pj_reach.proofs.numbering.number.Goals as goal
use Rattle.pj_reach.proofs.numbering.number.Goals.{in-Some+in_ok-push-in-Some, in-None+in_ok-push-in-None}

pub loop-tree-preserved : goal.loop-tree-preserved
loop-tree-preserved c =
    let tree_in : get_or c.args.tree_of.now c.loop-tree.tree-index 0 < length c.args.tree_of.now = c.requires.few c.loop-tree.tree-index c.loop-tree-test.true in
    let is_read : c.index.result.now ≡ get_or c.loop-tree.number_of.items (get_or c.args.tree_of.now c.loop-tree.tree-index 0) c.index.result.now = c.index.ensures in
    let read : c.index.result.now ≡ get_or c.loop-tree.number_of.items (get_or c.args.tree_of.now c.loop-tree.tree-index 0) None =
    get_or_read c.loop-tree.number_of.items (get_or c.args.tree_of.now c.loop-tree.tree-index 0) c.index.result.now (omega (arith, tree_in, c.loop-tree.invariant.numbers_len)) is_read None in
    elim c.match-index.branch [
      | in-Some+in_ok-push-in-Some w ↦
          rw (w.number_of-is, w.class_of-is, w.classes-is, w.in_ok-push-in-Some.ensures.items)
          (old_number (length c.args.tree_of.now) c.args.tree_of.now c.loop-tree.tree-index c.loop-tree.number_of.items c.loop-tree.class_of.items c.loop-tree.classes c.loop-tree.invariant tree_in w.in-Some.class (sym read ∙ w.in-Some.is))
      | in-None+in_ok-push-in-None w ↦
          rw (w.number_of-is, w.class_of-is, w.classes-is, w.in_ok-push-in-None.ensures.items)
          (new_number (length c.args.tree_of.now) c.args.tree_of.now c.loop-tree.tree-index c.loop-tree.number_of.items c.loop-tree.class_of.items c.loop-tree.classes c.loop-tree.invariant tree_in (sym read ∙ w.in-None.is))
    ]

pub returns : goal.returns
returns c =
    let all : c.loop-tree.tree-index ≡ length c.args.tree_of.now = omega arith in
    all_numbered (length c.args.tree_of.now) c.args.tree_of.now c.loop-tree.number_of.items c.loop-tree.class_of.items c.loop-tree.classes
    (subst (λ k. Numbers (length c.args.tree_of.now) c.args.tree_of.now k c.loop-tree.number_of.items c.loop-tree.class_of.items c.loop-tree.classes) all c.loop-tree.invariant)
