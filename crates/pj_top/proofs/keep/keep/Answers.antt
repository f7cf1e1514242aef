use Rattle.std.proofs.Common.{refl, sym, subst, inr}
use Rattle.pj_io.specs.Meanings.{Streams}
use Rattle.pj_serve.specs.declared.status.Status.TheVariants.{Memory}
use Rattle.pj_serve.specs.Opening.{LacksPair}
use Rattle.pj_top.proofs.Keeping.{kept_over, lacks_store, lacks_streams, pair_before, same_office, streams_before}
use Rattle.pj_top.proofs.keep.keep.Goals as goal

pub returns-in_default-clause-keep : goal.returns-in_default-clause-keep
returns-in_default-clause-keep g c =
    let nothing = c.nothing.ensures in
    lacks_store _ _ _ _ _ _ (record { ended = Memory; status = nothing.status; cause = inr refl; store = nothing.store; holds = nothing.holds; office = same_office _ _ })

pub returns-clause-keep : goal.returns-clause-keep
returns-clause-keep g c =
    kept_over _ _ _ _ _ _ (record {
      opened = c.in-Ok.store;
      is_store = c.in-Ok.ensures.store;
      streams = c.in-Ok-open_streams.opened;
      are_streams = streams_before _ _ _ _ c.open_streams.new.office c.in-Ok.ensures.same _ c.in-Ok-open_streams.ensures.opened;
      life = c.keep_repository-life.result;
      lived = c.keep_repository-life.ensures;
      finish = c.lived.ensures;
    })

pub returns-in-Err-clause-keep : goal.returns-in-Err-clause-keep
returns-in-Err-clause-keep g c =
    let nothing = c.nothing-in-Err.ensures in
    lacks_store _ _ _ _ _ _ (record {
      ended = c.in-Err.status;
      status = nothing.status;
      cause = c.in-Err.ensures.refused;
      store = nothing.store;
      holds = nothing.holds;
      office = c.in-Err.ensures.same;
    })

pub returns-in-Err-open_streams-clause-keep : goal.returns-in-Err-open_streams-clause-keep
returns-in-Err-open_streams-clause-keep g c =
    let offices = g.B.Office.meaning in
    let streams : Streams g.row.B-Src.Denot g.row.B-Dst.Denot = record { sources = g.B.Src.Source.meaning; sinks = g.B.Dst.Sink.meaning } in
    let lacks = c.in-Err-open_streams.lacks in
    let unpaired = c.unpaired.ensures in
    let bytes = (offices.contents c.args.bureau.now).input in
    let before = pair_before offices streams c.args.bureau.now _ c.open_streams.new.office c.in-Ok.ensures.same _ _ c.in-Err-open_streams.ensures.refused in
    lacks_streams _ _ _ _ _ _ (record {
      opened = c.in-Ok.store;
      is_store = c.in-Ok.ensures.store;
      store = unpaired.store;
      stopped = record {
        ended = lacks.status;
        status = unpaired.status;
        lacks = (
          unpaired.kept,
          subst (λ source. LacksPair offices streams c.args.bureau.now c.open_streams.new.office bytes source lacks.status) (sym unpaired.input) before,
        );
        none = unpaired.none;
      };
    })
