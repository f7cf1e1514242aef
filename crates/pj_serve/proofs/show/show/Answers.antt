use Rattle.pj_io.specs.Meanings.{Offices, Streams}
use Rattle.pj_serve.proofs.ShowLemmas.{ran, shows_opened, has_shown, shows_neither, shows_source}
use Rattle.pj_serve.proofs.show.show.Goals as goal

pub returns-in-Err-clause-shown : goal.returns-in-Err-clause-shown
returns-in-Err-clause-shown g c =
    let offices : Offices g.row.O.Denot = g.O.Office.meaning in
    let streams : Streams g.row.O-Src.Denot g.row.O-Dst.Denot = record { sources = g.O.Src.Source.meaning; sinks = g.O.Dst.Sink.meaning } in
    let old : g.row.O.Denot = c.args.office.now in
    let new : g.row.O.Denot = c.open_input.new.office in
    let idle = c.idle.ensures in
    has_shown offices streams old new c.idle.result c.in-Err.status idle.status
    (shows_neither offices streams old new _ _ _ idle.input idle.out (c.in-Err.ensures.refused, c.open_input.ensures.write_faults)) idle.idle

pub returns-in-Err-open_output-clause-shown : goal.returns-in-Err-open_output-clause-shown
returns-in-Err-open_output-clause-shown g c =
    let offices : Offices g.row.O.Denot = g.O.Office.meaning in
    let streams : Streams g.row.O-Src.Denot g.row.O-Dst.Denot = record { sources = g.O.Src.Source.meaning; sinks = g.O.Dst.Sink.meaning } in
    let old : g.row.O.Denot = c.args.office.now in
    let new : g.row.O.Denot = c.open_output.new.office in
    let idle = c.idle-in-Err-open_output.ensures in
    has_shown offices streams old new c.idle-in-Err-open_output.result c.in-Err-open_output.status idle.status
    (shows_source offices streams old new c.open_input.new.office _ _ c.in-Ok.source _ idle.input idle.out c.open_input.ensures.write_faults c.in-Err-open_output.ensures.refused c.in-Ok.ensures.bytes) idle.idle

pub returns-clause-shown : goal.returns-clause-shown
returns-clause-shown g c =
    let offices : Offices g.row.O.Denot = g.O.Office.meaning in
    let streams : Streams g.row.O-Src.Denot g.row.O-Dst.Denot = record { sources = g.O.Src.Source.meaning; sinks = g.O.Dst.Sink.meaning } in
    let old : g.row.O.Denot = c.args.office.now in
    let new : g.row.O.Denot = c.open_output.new.office in
    let opened_source = c.in-Ok.ensures.source in
    let opened_sink = c.in-Ok-open_output.ensures.opened.new in
    let all = c.show_all-status.ensures in
    let idle = c.idle-2.ensures in
    has_shown offices streams old new c.idle-2.result c.show_all-status.result idle.status
    (shows_opened offices streams old new _ _ _ _ _ idle.input idle.out
    (ran offices streams old new c.in-Ok.source c.show_all-status.new.source c.in-Ok-open_output.sink c.show_all-status.new.sink _
    opened_source.told c.in-Ok.ensures.bytes opened_source.no_fault opened_sink.empty opened_sink.no_fault
    all.sink_tells c.in-Ok-open_output.ensures.opened.label_is all.label all.read_cause all.write_cause all.showed)) idle.idle
