use Rattle.std.proofs.Common.{arith}
use Rattle.pj_output.proofs.LiveTexts.{more_live}
use Rattle.pj_output.proofs.live_text.live_in.Goals as goal

pub loop-v-preserved : goal.loop-v-preserved
loop-v-preserved c =
    let v = c.in-Some.v in
    let low = c.loop-v.invariant.low in
    let high = c.in-Some.ensures.lies.high in
    record {
      low = omega (arith, low, high);
      live = more_live c.args.tables.now c.list-list.ensures.lawful c.args.block.now c.loop-v.offset v c.in-Some.ensures c.loop-v.entries.items c.add_live.new.entries.items
          c.loop-v.invariant.live c.in_ok-add_live.ensures;
    }
