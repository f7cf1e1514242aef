use Rattle.std.proofs.Common.{subst}
use Rattle.pj_load.specs.Seats.{Enters}
use Rattle.pj_load.specs.Speech.{Speech}
use Rattle.pj_load.proofs.seats.run_seat.Goals as goal

pub returns : goal.returns
returns g c = record {
  number = c.speak-seat.ensures.number;
  journal = c.speak-seat.ensures.journal;
  speech = subst (λ script. Speech Enters c.args.limits c.args.seat.now.seen c.speak-seat.new.seen (g.P.Replier.view c.speak-seat.new.pass) script c.speak-seat.result) c.items.ensures
      (subst (λ limits. Speech Enters limits c.args.seat.now.seen c.speak-seat.new.seen (g.P.Replier.view c.speak-seat.new.pass) c.items.result.now c.speak-seat.result)
      c.requires.limits c.speak-seat.ensures.speech);
}
