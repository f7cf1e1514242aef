use Rattle.std.proofs.Common.{arith}
use Rattle.pj_cuts.proofs.PointsGiven.{room_at}
use Rattle.pj_cuts.proofs.cuts.Cuts.without_cuts.Goals as goal

pub remove-requires : goal.remove-requires
remove-requires g c =
    let p = c.point-item.result in
    let room = room_at c.args.points.now c.loop-point.point-index p c.loop-point-test.true c.point-item.is in
    omega (arith, room, c.loop-point.invariant.counts p, c.requires p)
