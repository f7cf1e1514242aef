use Rattle.std.proofs.Common.{◌∙◌, Ok, None, Some, ap, refl, subst, sym, arith, take_all, set}
use Rattle.std.specs.List.{AllZip}
use Rattle.pj_output.specs.Gives.{Gives, IsGivenIfSome}
use Rattle.pj_output.proofs.CallsInOrder.{zipped_more, zipped_length}
use Rattle.pj_output.proofs.GivenResults.{zipped_set, place_given}
use Rattle.pj_output.proofs.in_threads.map_left.Goals as goal
use Rattle.pj_output.proofs.in_threads.map_left.Goals.{in-Some, in-None+in_ok-result-in-None}

pub index_mut-requires : goal.index_mut-requires
index_mut-requires g c = omega (arith, zipped_length (IsGivenIfSome (Gives g.F.Fn c.args.f.now)) c.args.items.now c.loop-number.places.items c.loop-number.invariant.places, c.loop-number-test.true)

pub loop-number-preserved : goal.loop-number-preserved
loop-number-preserved g c =
    record {
      places = subst (λ z. AllZip (IsGivenIfSome (Gives g.F.Fn c.args.f.now)) c.args.items.now (set c.loop-number.places.items c.loop-number.number z)) (sym c.take.ensures.after)
          (zipped_set (IsGivenIfSome (Gives g.F.Fn c.args.f.now)) c.args.items.now c.loop-number.places.items c.loop-number.number c.index-items-number.result None c.loop-number-test.true (sym c.index-items-number.is) c.loop-number.invariant.places tt);
      all = zipped_more (Gives g.F.Fn c.args.f.now) c.args.items.now c.loop-number.all.items c.push.new.self.items c.loop-number.number c.index-items-number.result c.match-take.result
          c.loop-number-test.true c.index-items-number.is c.in_ok-push.ensures.items c.loop-number.invariant.all
          (elim c.match-take.branch [
            | in-Some w ↦ place_given (Gives g.F.Fn c.args.f.now) c.args.items.now c.loop-number.places.items c.loop-number.invariant.places c.loop-number.number c.index-items-number.result c.index_mut.result.now c.match-take.result
                c.loop-number-test.true (sym c.index-items-number.is) c.index_mut.ensures.value (sym c.take.ensures.value ∙ w.in-Some.is ∙ ap Some (sym w.result-is))
            | in-None+in_ok-result-in-None w ↦ record { shown = _; shows = refl; says = record { met = subst (g.F.Fn.post c.args.f.now _) (w.in_ok-result-in-None.was ∙ ap Ok (sym w.result-is)) w.f.ensures } }
          ]);
    }

pub returns : goal.returns
returns g c = subst (λ xs. AllZip (Gives g.F.Fn c.args.f.now) xs c.loop-number.all.items) (take_all c.loop-number.number c.args.items.now (omega (arith, c.loop-number-test.false))) c.loop-number.invariant.all
