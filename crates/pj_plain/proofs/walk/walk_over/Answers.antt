use Rattle.std.proofs.lemmas.Result.{IfOk-weaker}
use Rattle.pj_change.specs.Shared.{records}
use Rattle.pj_plain.proofs.LiveTexts.{live_told}
use Rattle.pj_tree.proofs.TreeNamespaces.{whole, is_namespace}
use Rattle.pj_plain.proofs.walk.walk_over.Goals as goal

pub walk-requires : goal.walk-requires
walk-requires c =
    whole (records c.args.set.now.changes.now) c.requires.lawful c.in_ok-tree.tree c.in_ok-tree.ensures

pub returns : goal.returns
returns c =
    let S = records c.args.set.now.changes.now in
    let vertices = c.args.set.now.vertices.now in
    IfOk-weaker c.walk.result _ _ (λ w h. h S (is_namespace S c.requires.lawful c.in_ok-tree.tree c.in_ok-tree.ensures _ (λ inode. live_told S vertices c.requires.vertices inode))) c.walk.ensures.of_set
