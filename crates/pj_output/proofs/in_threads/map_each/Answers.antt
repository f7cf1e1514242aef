use Rattle.pj_output.specs.Gives.{Gives}
use Rattle.std.proofs.Common.{subst, refl}
use Rattle.pj_output.proofs.CallsInOrder.{zipped_more}
use Rattle.pj_output.proofs.in_threads.map_each.Goals as goal

pub loop-item-preserved : goal.loop-item-preserved
loop-item-preserved g c =
    zipped_more (Gives g.F.Fn c.args.f.now) c.args.items.now c.loop-item.all.items c.push.new.self.items c.loop-item.item-index _ c.in_ok-f.field-0
    c.loop-item-test.true c.item-item.is c.in_ok-push.ensures.items c.loop-item.invariant
    (record { shown = _; shows = refl; says = record { met = subst (g.F.Fn.post c.args.f.now _) c.in_ok-f.was c.f.ensures } })
