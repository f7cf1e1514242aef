use Rattle.pj_output.specs.Gives.{Gives}
use Rattle.std.proofs.Common.{subst, refl, sym}
use Rattle.pj_output.proofs.GivenResults.{none_given, given_more}
use Rattle.pj_output.proofs.in_threads.take_turns.Goals as goal

pub loop-init : goal.loop-init
loop-init g c = none_given (Gives g.F.Fn c.args.f.now) c.args.items.now c.new-given.result.items c.new-given.ensures.items

pub loop-preserved : goal.loop-preserved
loop-preserved g c =
    given_more (Gives g.F.Fn c.args.f.now) c.args.items.now c.loop.given.items c.push.new.self.items _ c.in_ok-push.ensures.items c.loop.invariant
    (c.in-Some.item.now, c.in-Some.ensures.lookup.3.0, sym c.in-Some.ensures.lookup.1, record { shown = _; shows = refl; says = record { met = subst (g.F.Fn.post c.args.f.now _) c.in_ok-f.was c.f.ensures } })
