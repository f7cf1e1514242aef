use Rattle.std.proofs.Common.{None, subst, arith, take_all}
use Rattle.std.specs.List.{AllZip}
use Rattle.pj_output.specs.Gives.{Gives, IsGivenIfSome}
use Rattle.pj_output.proofs.CallsInOrder.{zipped_more}
use Rattle.pj_output.proofs.GivenResults.{given_less, last_given, placed_more, place_within}
use Rattle.pj_output.proofs.in_threads.placed.Goals as goal

pub loop-preserved : goal.loop-preserved
loop-preserved g c =
    zipped_more (IsGivenIfSome (Gives g.F.Fn c.args.f.now)) c.args.items.now c.loop.places.items c.push.new.self.items c.loop.index c.loop-item.result None
    c.loop-test.true c.loop-item.is c.in_ok-push.ensures.items c.loop.invariant tt

pub loop-number-init : goal.loop-number-init
loop-number-init g c = record {
  placed = subst (λ xs. AllZip (IsGivenIfSome (Gives g.F.Fn c.args.f.now)) xs c.loop.places.items) (take_all c.loop.index c.args.items.now (omega (arith, c.loop-test.false))) c.loop.invariant;
  left = c.requires;
}

pub index_mut-requires : goal.index_mut-requires
index_mut-requires g c =
    let one = last_given (Gives g.F.Fn c.args.f.now) c.args.items.now c.loop-number.left.items c.pop.new.self.items _ c.in-Some.ensures.items c.loop-number.invariant.left in
    omega (arith, place_within (Gives g.F.Fn c.args.f.now) c.args.items.now c.loop-number.places.items c.loop-number.invariant.placed _ one)

pub loop-number-preserved-in-Some : goal.loop-number-preserved-in-Some
loop-number-preserved-in-Some g c =
    let one = last_given (Gives g.F.Fn c.args.f.now) c.args.items.now c.loop-number.left.items c.pop.new.self.items _ c.in-Some.ensures.items c.loop-number.invariant.left in
    record {
      placed = placed_more (Gives g.F.Fn c.args.f.now) c.args.items.now c.loop-number.places.items c.loop-number.invariant.placed _ one;
      left = given_less (Gives g.F.Fn c.args.f.now) c.args.items.now c.loop-number.left.items c.pop.new.self.items _ c.in-Some.ensures.items c.loop-number.invariant.left;
    }

pub loop-number-preserved : goal.loop-number-preserved
loop-number-preserved g c =
    let one = last_given (Gives g.F.Fn c.args.f.now) c.args.items.now c.loop-number.left.items c.pop.new.self.items _ c.in-Some.ensures.items c.loop-number.invariant.left in
    record {
      placed = placed_more (Gives g.F.Fn c.args.f.now) c.args.items.now c.loop-number.places.items c.loop-number.invariant.placed _ one;
      left = given_less (Gives g.F.Fn c.args.f.now) c.args.items.now c.loop-number.left.items c.pop.new.self.items _ c.in-Some.ensures.items c.loop-number.invariant.left;
    }
