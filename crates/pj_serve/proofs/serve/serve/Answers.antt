use Rattle.std.proofs.Common.{List, length, refl, sym, ◌∙◌, ap, subst, inl, inr}
use Rattle.std.proofs.lemmas.List.{length-map}
use Rattle.pj_serve.specs.Outside.{Outside}
use Rattle.pj_serve.specs.Serves.{AreDoors}
use Rattle.pj_serve.specs.Shares.{total}
use Rattle.pj_serve.specs.Status.{exit_status, first_end, status_after}
use Rattle.pj_serve.proofs.EndsServed.{does_serve, no_doors}
use Rattle.pj_serve.proofs.EndsWell.{wants_memory}
use Rattle.pj_serve.proofs.ShareLemmas.{many_shares, total_shares}
use Rattle.pj_serve.proofs.serve.serve.Goals as goal

pub run_workers-requires-clause-workers : goal.run_workers-requires-clause-workers
run_workers-requires-clause-workers g c κs within =
    sym (length-map c.in-Ok.doors.items g.O.Way.Door.meaning.left) ∙ ap (λ (l : List _). length l) (c.in-Ok.ensures.opened.shares_are ∙ c.as_slice.ensures.value ∙ c.in-Some.ensures) ∙ many_shares c.args.request.sessions c.args.request.workers 0 c.args.request.workers

pub run_workers-requires-clause-sessions : goal.run_workers-requires-clause-sessions
run_workers-requires-clause-sessions g c κs within =
    ap total (c.in-Ok.ensures.opened.shares_are ∙ c.as_slice.ensures.value ∙ c.in-Some.ensures) ∙ total_shares c.args.request.sessions c.args.request.workers c.requires.some

pub returns-clause-serve : goal.returns-clause-serve
returns-clause-serve g c =
    let outside : Outside g.row.O.Denot g.row.O-Src.Denot g.row.O-Dst.Denot g.row.O-Way.Denot = record {
      offices = g.O.Office.meaning;
      streams = record { sources = g.O.Src.Source.meaning; sinks = g.O.Dst.Sink.meaning };
      doors = g.O.Way.Door.meaning;
    } in
    let done = c.in-Some-run_workers.done in
    let its_shares_are = c.as_slice.ensures.value ∙ c.in-Some.ensures in
    does_serve outside c.args.limits c.args.office.now c.open_doors.new.office _ c.args.request.address.now c.args.request.sessions c.args.request.workers c.tells_all.ensures
    (inl (record {
      opened = c.in-Ok.doors.items;
      are_doors = subst (λ l. AreDoors outside.offices outside.doors c.args.office.now c.args.request.address.now l c.in-Ok.doors.items) its_shares_are c.in-Ok.ensures.opened;
      served = c.in-Some-run_workers.ensures;
      status = c.code.ensures ∙ ap exit_status (c.status_after-status.ensures ∙ ap (λ e. status_after (first_end e) _) c.items.ensures);
      input = refl;
      out = refl;
    })) c.open_doors.ensures.write_faults

pub returns-in-Err-clause-serve : goal.returns-in-Err-clause-serve
returns-in-Err-clause-serve g c =
    let outside : Outside g.row.O.Denot g.row.O-Src.Denot g.row.O-Dst.Denot g.row.O-Way.Denot = record {
      offices = g.O.Office.meaning;
      streams = record { sources = g.O.Src.Source.meaning; sinks = g.O.Dst.Sink.meaning };
      doors = g.O.Way.Door.meaning;
    } in
    let idle = c.idle-in-Err.ensures in
    does_serve outside c.args.limits c.args.office.now c.open_doors.new.office c.idle-in-Err.result c.args.request.address.now c.args.request.sessions c.args.request.workers c.tells_all.ensures
    (inr (no_doors outside c.args.limits c.args.office.now c.open_doors.new.office c.idle-in-Err.result c.args.request.address.now c.args.request.sessions c.args.request.workers c.in-Err.status idle.status idle.input idle.out idle.idle c.in-Err.ensures.refused)) c.open_doors.ensures.write_faults

pub returns-in_default-clause-serve : goal.returns-in_default-clause-serve
returns-in_default-clause-serve g c =
    let outside : Outside g.row.O.Denot g.row.O-Src.Denot g.row.O-Dst.Denot g.row.O-Way.Denot = record {
      offices = g.O.Office.meaning;
      streams = record { sources = g.O.Src.Source.meaning; sinks = g.O.Dst.Sink.meaning };
      doors = g.O.Way.Door.meaning;
    } in
    let idle = c.idle.ensures in
    does_serve outside c.args.limits c.args.office.now c.args.office.now c.idle.result c.args.request.address.now c.args.request.sessions c.args.request.workers c.tells_all.ensures
    (inr (wants_memory _ idle.status idle.input idle.out idle.idle (λ kept input. (kept, input)))) refl

pub returns-in_default-run_workers-clause-serve : goal.returns-in_default-run_workers-clause-serve
returns-in_default-run_workers-clause-serve g c =
    let outside : Outside g.row.O.Denot g.row.O-Src.Denot g.row.O-Dst.Denot g.row.O-Way.Denot = record {
      offices = g.O.Office.meaning;
      streams = record { sources = g.O.Src.Source.meaning; sinks = g.O.Dst.Sink.meaning };
      doors = g.O.Way.Door.meaning;
    } in
    let idle = c.idle-in_default-run_workers.ensures in
    does_serve outside c.args.limits c.args.office.now c.open_doors.new.office c.idle-in_default-run_workers.result c.args.request.address.now c.args.request.sessions c.args.request.workers c.tells_all.ensures
    (inr (wants_memory _ idle.status idle.input idle.out idle.idle (λ kept input. (kept, input)))) c.open_doors.ensures.write_faults
