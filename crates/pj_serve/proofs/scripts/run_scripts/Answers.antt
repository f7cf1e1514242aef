use Rattle.std.proofs.Common.{refl, sym, ◌∙◌, ap, subst, inl, inr, arith}
use Rattle.pj_serve.specs.Outside.{Outside}
use Rattle.pj_machine.specs.JournalText.{journal_text}
use Rattle.pj_serve.specs.Sessions.{WroteText}
use Rattle.pj_serve.specs.Status.{exit_status, first_end, status_after}
use Rattle.pj_serve.proofs.EndsWell.{does_run, wants_memory, wrote_text}
use Rattle.pj_serve.proofs.Openings.{run_stops, output_lacks}
use Rattle.pj_serve.proofs.scripts.run_scripts.Goals as goal

pub stopped-requires-clause-room : goal.stopped-requires-clause-room
stopped-requires-clause-room g c =
    let few = c.open_scripts.ensures.few in
    let room = c.in-Some.ensures.kept in
    (room.0, omega (arith, few, room.1))

pub stopped-requires-clause-few : goal.stopped-requires-clause-few
stopped-requires-clause-few g c = let few = c.open_scripts.ensures.few in let most = c.requires in omega (arith, few, most)

pub returns-in_default-clause-run : goal.returns-in_default-clause-run
returns-in_default-clause-run g c =
    let outside : Outside g.row.O.Denot g.row.O-Src.Denot g.row.O-Dst.Denot g.row.O-Way.Denot = record {
      offices = g.O.Office.meaning;
      streams = record { sources = g.O.Src.Source.meaning; sinks = g.O.Dst.Sink.meaning };
      doors = g.O.Way.Door.meaning;
    } in
    let idle = c.idle.ensures in
    does_run outside c.args.limits c.args.office.now c.args.office.now c.idle.result c.args.paths.now
    (inr (wants_memory _ idle.status idle.input idle.out idle.idle (λ kept input. (kept, input))))

pub returns-in_default-run_sessions-clause-run : goal.returns-in_default-run_sessions-clause-run
returns-in_default-run_sessions-clause-run g c =
    let outside : Outside g.row.O.Denot g.row.O-Src.Denot g.row.O-Dst.Denot g.row.O-Way.Denot = record {
      offices = g.O.Office.meaning;
      streams = record { sources = g.O.Src.Source.meaning; sinks = g.O.Dst.Sink.meaning };
      doors = g.O.Way.Door.meaning;
    } in
    let idle = c.idle-in_default-run_sessions.ensures in
    does_run outside c.args.limits c.args.office.now c.open_output.new.office c.idle-in_default-run_sessions.result c.args.paths.now
    (inr (wants_memory _ idle.status idle.input idle.out idle.idle (λ kept input. (kept, input))))

pub returns-in-Err-clause-run : goal.returns-in-Err-clause-run
returns-in-Err-clause-run g c =
    let outside : Outside g.row.O.Denot g.row.O-Src.Denot g.row.O-Dst.Denot g.row.O-Way.Denot = record {
      offices = g.O.Office.meaning;
      streams = record { sources = g.O.Src.Source.meaning; sinks = g.O.Dst.Sink.meaning };
      doors = g.O.Way.Door.meaning;
    } in
    let stopped = c.stopped.ensures in
    does_run outside c.args.limits c.args.office.now c.open_scripts.new.office c.stopped.result c.args.paths.now
    (inr (run_stops outside.offices outside.streams c.args.office.now c.open_scripts.new.office c.args.paths.now _ _ _ c.stopped.result c.in-Err.ensures.refused
    stopped.status stopped.memory stopped.kept stopped.input stopped.none))

pub returns-in-Err-open_output-clause-run : goal.returns-in-Err-open_output-clause-run
returns-in-Err-open_output-clause-run g c =
    let outside : Outside g.row.O.Denot g.row.O-Src.Denot g.row.O-Dst.Denot g.row.O-Way.Denot = record {
      offices = g.O.Office.meaning;
      streams = record { sources = g.O.Src.Source.meaning; sinks = g.O.Dst.Sink.meaning };
      doors = g.O.Way.Door.meaning;
    } in
    let stopped = c.stopped-in-Err-open_output.ensures in
    does_run outside c.args.limits c.args.office.now c.open_output.new.office c.stopped-in-Err-open_output.result c.args.paths.now
    (inr (run_stops outside.offices outside.streams c.args.office.now c.open_output.new.office c.args.paths.now _ _ _ c.stopped-in-Err-open_output.result
    (output_lacks outside.offices outside.streams c.args.office.now c.open_scripts.new.office c.open_output.new.office c.open_scripts.ensures.office c.args.paths.now _ c.in-Err-open_output.status
    c.in-Ok.ensures.opened c.in-Err-open_output.ensures.refused)
    stopped.status stopped.memory stopped.kept stopped.input stopped.none))

pub returns-clause-run : goal.returns-clause-run
returns-clause-run g c =
    let outside : Outside g.row.O.Denot g.row.O-Src.Denot g.row.O-Dst.Denot g.row.O-Way.Denot = record {
      offices = g.O.Office.meaning;
      streams = record { sources = g.O.Src.Source.meaning; sinks = g.O.Dst.Sink.meaning };
      doors = g.O.Way.Door.meaning;
    } in
    let held = c.in-Some-run_sessions.held in
    let output = c.in-Ok-open_output.ensures.opened in
    let wrote = c.write_journal.ensures in
    let streams = outside.streams in
    let sink = c.write_journal.new.sink in
    does_run outside c.args.limits c.args.office.now c.open_output.new.office _ c.args.paths.now
    (inl (record {
      opened = c.open_scripts.new.opened.items;
      are_opened = c.in-Ok.ensures.opened;
      whole = c.is_ok-whole.result;
      ran = record {
        sessions = c.in-Some-run_sessions.ensures;
        status = c.code.ensures ∙ ap exit_status (c.status_after-status.ensures ∙ ap (λ e. status_after (first_end e) c.is_ok-whole.result) c.items-2.ensures);
        input = refl;
        doors = c.new.ensures.items;
      };
      out = record {
        sink = sink;
        out = refl;
        label = λ h. let told = sym wrote.told ∙ h in wrote.label told ∙ output.label_is told;
        wrote = subst (λ text. WroteText streams sink text c.is_ok-whole.result) (ap journal_text c.items.ensures)
            (subst (λ whole. WroteText streams sink (journal_text c.items.result.now) whole) (sym c.is_ok-whole.ensures.value)
            (wrote_text streams c.in-Ok-open_output.out sink (journal_text c.items.result.now) c.write_journal.result wrote.told output.new.empty output.new.no_fault wrote.bytes wrote.cause));
      };
    }))
