use Rattle.std.proofs.Common.{refl}
use Rattle.pj_pmap.proofs.Splices.{length_same}
use Rattle.pj_pmap.proofs.node.spliced.Goals as goal

pub returns-clause-same : goal.returns-clause-same
returns-clause-same g c =
    rw (c.in_ok-share_children-2.ensures, c.in_ok-push_child-2.ensures, c.in_ok-push_child.ensures, c.in_ok-share_children.ensures, c.in_ok-reserve.ensures.items, c.new-list.ensures.items) refl

pub returns-clause-len : goal.returns-clause-len
returns-clause-len g c =
    length_same c.share_children-2.new.list.items c.args.before.now c.args.after.now c.args.first c.args.second
    (rw (c.in_ok-share_children-2.ensures, c.in_ok-push_child-2.ensures, c.in_ok-push_child.ensures, c.in_ok-share_children.ensures, c.in_ok-reserve.ensures.items, c.new-list.ensures.items) refl)
