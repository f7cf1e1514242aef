use Rattle.std.proofs.Common.{◌≡◌, arith}
use Rattle.std.specs.Prelude.{Contains}
use Rattle.pj_change.specs.declared.point.Point.{Point}
use Rattle.pj_dead.proofs.Searching.{goes_none, goes_more, goes_all, goes_alike}
use Rattle.pj_dead.proofs.found.with_points.Goals as goal

abbrev Any : Point → Type 0
Any p = Unit {0}

pub loop-point-init : goal.loop-point-init
loop-point-init c = goes_none Any c.args.points.now c.args.found

pub loop-point-preserved : goal.loop-point-preserved
loop-point-preserved c =
    let point = c.point-item.result in
    goes_more Any c.args.points.now c.loop-point.point-index point point c.loop-point-test.true c.point-item.is c.args.found c.loop-point.found c.in_ok-found.found c.loop-point.invariant
    (goes_alike (λ q. point ≡ q) (λ q. (point ≡ q) × Any point) c.loop-point.found c.in_ok-found.found (λ q e. (e, tt)) (λ q k. k.0) c.in_ok-found.ensures)

pub returns : goal.returns
returns c =
    goes_alike (λ q. Contains c.args.points.now q × Any q) (Contains c.args.points.now) c.args.found c.loop-point.found (λ q k. k.0) (λ q m. (m, tt))
    (goes_all Any c.args.points.now c.loop-point.point-index (omega arith) c.args.found c.loop-point.found c.loop-point.invariant)
