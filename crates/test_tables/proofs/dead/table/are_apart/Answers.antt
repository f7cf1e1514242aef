use Rattle.std.proofs.Common.{◌∙◌, sym, arith}
use Rattle.test_tables.proofs.Found.{apart_none, apart_more, apart_all, shape_is}
use Rattle.test_tables.proofs.dead.table.are_apart.Goals as goal

pub loop-one-init : goal.loop-one-init
loop-one-init c = apart_none c.args.shapes.now

pub loop-one-preserved : goal.loop-one-preserved
loop-one-preserved c =
    apart_more c.args.shapes.now c.loop-one.one c.index-shapes-one.result c.loop-one-test.true c.index-shapes-one.is c.loop-one.invariant
    (shape_is c.index-shapes-one.result (sym c.is_shape.ensures ∙ c.if-not-is_shape.false)) (c.is_before_others.ensures c.if-not-is_before_others.false)

pub returns : goal.returns
returns c = λ t. apart_all c.args.shapes.now c.loop-one.one (omega arith) c.loop-one.invariant
