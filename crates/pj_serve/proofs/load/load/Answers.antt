use Rattle.std.proofs.Common.{None, refl, sym, ◌∙◌, inl, inr}
use Rattle.pj_serve.specs.declared.status.Status.TheVariants.{Memory}
use Rattle.pj_serve.specs.Outside.{Outside}
use Rattle.pj_serve.proofs.EndsLoaded.{does_load}
use Rattle.pj_serve.proofs.load.load.Goals as goal

pub returns-in_default-clause-load : goal.returns-in_default-clause-load
returns-in_default-clause-load g c =
    let outside : Outside g.row.O.Denot g.row.O-Src.Denot g.row.O-Dst.Denot g.row.O-Way.Denot = record {
      offices = g.O.Office.meaning;
      streams = record { sources = g.O.Src.Source.meaning; sinks = g.O.Dst.Sink.meaning };
      doors = g.O.Way.Door.meaning;
    } in
    let idle = c.idle-in_default.ensures in
    let output = c.in-Ok.ensures.opened in
    does_load outside c.args.office.now c.open_output.new.office c.idle-in_default.result c.args.loading.number c.args.loading.changes c.args.loading.sessions
    c.open_output.ensures.read_faults (inl (record {
      summary = None;
      ran = inr (idle.idle, refl);
      sink = c.in-Ok.out;
      out = idle.out;
      label = output.label_is;
      ended = Memory;
      status = idle.status;
      wrote = output.new.empty;
      input = idle.input;
      kept = idle.idle.kept;
      doors = idle.idle.doors;
    }))

pub returns-clause-load : goal.returns-clause-load
returns-clause-load g c =
    let outside : Outside g.row.O.Denot g.row.O-Src.Denot g.row.O-Dst.Denot g.row.O-Way.Denot = record {
      offices = g.O.Office.meaning;
      streams = record { sources = g.O.Src.Source.meaning; sinks = g.O.Dst.Sink.meaning };
      doors = g.O.Way.Door.meaning;
    } in
    let output = c.in-Ok.ensures.opened in
    let wrote = c.write_summary-status.ensures in
    does_load outside c.args.office.now c.open_output.new.office _ c.args.loading.number c.args.loading.changes c.args.loading.sessions
    c.open_output.ensures.read_faults (inl (record {
      summary = c.in-Some.loaded.summary;
      ran = inl (record {
        limits = _;
        full = record { changes = refl; bytes = refl; channels = refl; entries = refl; live = refl; session = refl };
        run = c.in-Some.ensures;
      });
      sink = c.write_summary-status.new.sink;
      out = refl;
      label = λ h. let told = sym wrote.told ∙ h in wrote.label told ∙ output.label_is told;
      ended = c.write_summary-status.result;
      status = c.code.ensures;
      wrote = wrote.wrote;
      input = refl;
      kept = c.new.ensures.items;
      doors = c.new-2.ensures.items;
    }))
