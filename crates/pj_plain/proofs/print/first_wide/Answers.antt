use Rattle.std.proofs.Common.{arith}
use Rattle.pj_change.specs.Shared.{records}
use Rattle.pj_print.proofs.Prints.{wide_here, wide_later, none_wide}
use Rattle.pj_plain.proofs.print.first_wide.Goals as goal

pub loop-step-init : goal.loop-step-init
loop-step-init c = λ found h. h

pub returns-then-wide : goal.returns-then-wide
returns-then-wide c =
    wide_here (records c.args.set.now.changes.now) c.args.limit c.args.steps.now c.loop-step.step-index c.step-item.result c.loop-step-test.true c.step-item.is c.loop-step.invariant
    (c.in_ok-wide.ensures.0 c.if-wide.true)

pub loop-step-preserved : goal.loop-step-preserved
loop-step-preserved c =
    wide_later (records c.args.set.now.changes.now) c.args.limit c.args.steps.now c.loop-step.step-index c.step-item.result c.loop-step-test.true c.step-item.is c.loop-step.invariant
    (λ w. let t = c.in_ok-wide.ensures.1 w in cc)

pub returns : goal.returns
returns c = none_wide (records c.args.set.now.changes.now) c.args.limit c.args.steps.now c.loop-step.step-index (omega arith) c.loop-step.invariant
