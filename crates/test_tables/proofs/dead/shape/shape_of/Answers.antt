use Rattle.std.proofs.Common.{◌∙◌, sym, arith}
use Rattle.test_tables.specs.ListedGraphs.{has}
use Rattle.test_tables.proofs.Found.{none_yet, found_now, none_found, none_at_all}
use Rattle.test_tables.proofs.dead.shape.shape_of.Goals as goal

pub returns-then-has : goal.returns-then-has
returns-then-has c = sym (found_now (has c.args.point) c.args.shapes.now c.loop-shape.shape-index c.shape-item.result c.loop-shape-test.true c.shape-item.is c.loop-shape.invariant (sym c.has.ensures ∙ c.if-has.true))

pub loop-shape-preserved : goal.loop-shape-preserved
loop-shape-preserved c = none_yet (has c.args.point) c.args.shapes.now c.loop-shape.shape-index c.shape-item.result c.loop-shape-test.true c.shape-item.is c.loop-shape.invariant (sym c.has.ensures ∙ c.if-has.false)

pub returns : goal.returns
returns c = sym (none_found (has c.args.point) c.args.shapes.now (none_at_all (has c.args.point) c.args.shapes.now c.loop-shape.shape-index (omega arith) c.loop-shape.invariant))
