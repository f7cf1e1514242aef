use Rattle.pj_sync.proofs.Sets.{set_more}
use Rattle.pj_sync.proofs.names.set_of.Goals as goal

pub loop-name-preserved : goal.loop-name-preserved
loop-name-preserved c =
    set_more c.args.names.now c.loop-name.name-index c.name-item.result c.loop-name.set c.insert.new.self c.loop-name-test.true c.name-item.is
    c.in_ok-insert.ensures.updates c.loop-name.invariant
