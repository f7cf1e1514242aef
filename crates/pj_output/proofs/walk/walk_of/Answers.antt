use Rattle.std.proofs.lemmas.Result.{IfOk-weaker}
use Rattle.pj_tree.proofs.TreeNamespaces.{whole, is_namespace}
use Rattle.pj_output.proofs.LiveTexts.{live_told}
use Rattle.pj_output.proofs.walk.walk_of.Goals as goal

pub walk-requires : goal.walk-requires
walk-requires c = whole c.args.tables.now c.list-list.ensures.lawful c.names.result.now c.names.ensures

pub returns : goal.returns
returns c =
    let S = c.args.tables.now in
    IfOk-weaker c.walk.result _ _
    (λ w h. h S (is_namespace S c.list-list.ensures.lawful c.names.result.now c.names.ensures _ (λ inode. live_told S c.args.entries.now c.requires inode))) c.walk.ensures.of_set
