use Rattle.std.proofs.Common.{◌-◌, arith, sym}
use Rattle.pj_change.specs.Covers.{touches}
use Rattle.pj_context.proofs.RangeLemmas.{range_passes, range_fails}
use Rattle.pj_context.proofs.range.touches_each.Goals as goal

pub returns-in-None : goal.returns-in-None
returns-in-None c =
    sym (range_fails (λ offset. touches c.args.by.now (record { change = c.args.owner; offset = offset })) c.args.start (c.args.end - c.args.start) c.loop-at.at
    c.loop-at.invariant.start (omega arith) c.in-None.ensures.none)

pub returns : goal.returns
returns c =
    sym (range_passes (λ offset. touches c.args.by.now (record { change = c.args.owner; offset = offset })) c.args.start (c.args.end - c.args.start)
    (λ k low high. c.loop-at.invariant.touched k low (omega arith)))
