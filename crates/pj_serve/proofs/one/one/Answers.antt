use Rattle.std.proofs.Common.{◌≡◌, List, [], ◌∷◌, ◌++◌, refl, sym, ◌∙◌, ap, subst, inl, inr}
use Rattle.pj_serve.specs.Opening.{LacksPair}
use Rattle.pj_serve.specs.Outside.{Outside}
use Rattle.pj_serve.specs.Served.{AreSessions}
use Rattle.pj_serve.specs.Status.{exit_status, first_end, status_after}
use Rattle.pj_serve.proofs.EndsWell.{does_one, wants_memory}
use Rattle.pj_serve.proofs.one.one.Goals as goal

pub returns-in-Err-clause-one : goal.returns-in-Err-clause-one
returns-in-Err-clause-one g c =
    let outside : Outside g.row.O.Denot g.row.O-Src.Denot g.row.O-Dst.Denot g.row.O-Way.Denot = record {
      offices = g.O.Office.meaning;
      streams = record { sources = g.O.Src.Source.meaning; sinks = g.O.Dst.Sink.meaning };
      doors = g.O.Way.Door.meaning;
    } in
    let stopped = c.stopped.ensures in
    does_one outside c.args.limits c.args.office.now c.open_input_and_output.new.office c.stopped.result
    (inr (record {
      ended = c.in-Err.lacks.status;
      status = stopped.status;
      lacks = (
        ap (λ k. k.items) stopped.kept ∙ c.new.ensures.items,
        subst (λ source. LacksPair outside.offices outside.streams c.args.office.now c.open_input_and_output.new.office (outside.offices.contents c.args.office.now).input source c.in-Err.lacks.status) (sym stopped.input) c.in-Err.ensures.refused,
      );
      none = stopped.none;
    }))

pub returns-in_default-clause-one : goal.returns-in_default-clause-one
returns-in_default-clause-one g c =
    let outside : Outside g.row.O.Denot g.row.O-Src.Denot g.row.O-Dst.Denot g.row.O-Way.Denot = record {
      offices = g.O.Office.meaning;
      streams = record { sources = g.O.Src.Source.meaning; sinks = g.O.Dst.Sink.meaning };
      doors = g.O.Way.Door.meaning;
    } in
    let idle = c.idle.ensures in
    does_one outside c.args.limits c.args.office.now c.open_input_and_output.new.office c.idle.result
    (inr (wants_memory _ idle.status idle.input idle.out idle.idle (λ kept input. (kept, input))))

pub returns-in_default-run_sessions-clause-one : goal.returns-in_default-run_sessions-clause-one
returns-in_default-run_sessions-clause-one g c =
    let outside : Outside g.row.O.Denot g.row.O-Src.Denot g.row.O-Dst.Denot g.row.O-Way.Denot = record {
      offices = g.O.Office.meaning;
      streams = record { sources = g.O.Src.Source.meaning; sinks = g.O.Dst.Sink.meaning };
      doors = g.O.Way.Door.meaning;
    } in
    let idle = c.idle-in_default-run_sessions.ensures in
    does_one outside c.args.limits c.args.office.now c.open_input_and_output.new.office c.idle-in_default-run_sessions.result
    (inr (wants_memory _ idle.status idle.input idle.out idle.idle (λ kept input. (kept, input))))

pub returns-clause-one : goal.returns-clause-one
returns-clause-one g c =
    let outside : Outside g.row.O.Denot g.row.O-Src.Denot g.row.O-Dst.Denot g.row.O-Way.Denot = record {
      offices = g.O.Office.meaning;
      streams = record { sources = g.O.Src.Source.meaning; sinks = g.O.Dst.Sink.meaning };
      doors = g.O.Way.Door.meaning;
    } in
    let held = c.in-Some.held in
    let all : c.push_reserved.new.self.items ≡ c.in-Ok.opened ∷ [] = c.push_reserved.ensures.items ∙ ap (λ (l : List _). l ++ c.in-Ok.opened ∷ []) c.in-Ok-with_capacity.ensures.items in
    does_one outside c.args.limits c.args.office.now c.open_input_and_output.new.office _
    (inl (record {
      opened = c.in-Ok.opened;
      is_opened = c.in-Ok.ensures.opened;
      ran = record {
        sessions = subst (λ (l : List _). AreSessions outside.streams c.args.limits held.journal l held.kept.items held.ends) all c.in-Some.ensures;
        status = c.code.ensures ∙ ap exit_status (c.status_after-status.ensures ∙ ap (λ e. status_after (first_end e) _) c.items.ensures);
        input = refl;
        doors = c.new-2.ensures.items;
      };
      out = refl;
    }))
