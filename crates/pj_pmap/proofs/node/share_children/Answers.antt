use Rattle.pj_pmap.proofs.Splices.{shared_more}
use Rattle.pj_pmap.proofs.node.share_children.Goals as goal

pub loop-child-preserved : goal.loop-child-preserved
loop-child-preserved g c =
    shared_more c.loop-child.list.items c.push.new.self.items c.args.list.now.items c.args.children.now c.loop-child.child-index c.child-item.result c.in_ok-share.field-0 c.in_ok-push.ensures.items c.loop-child.invariant c.loop-child-test.true c.child-item.is c.in_ok-share.ensures
