use Rattle.std.proofs.Common.{arith, subst, sym}
use Rattle.std.specs.Prelude.{Contains}
use Rattle.std.proofs.lemmas.List.Elements.{Contains-get_or}
use Rattle.test_tables.specs.States.{shown}
use Rattle.test_tables.proofs.Alike.{IsNotOf, each_none, each_more, each_all, not_touched}
use Rattle.test_tables.proofs.dead.kept.is_touched.Goals as goal

pub loop-point-init : goal.loop-point-init
loop-point-init c = each_none (IsNotOf (shown c.args.table.now) c.args.at) c.args.touched.now

pub loop-point-preserved : goal.loop-point-preserved
loop-point-preserved c =
    each_more (IsNotOf (shown c.args.table.now) c.args.at) c.args.touched.now c.loop-point.point-index c.point-item.result c.loop-point-test.true c.point-item.is c.loop-point.invariant (c.is_of.ensures.no c.if-is_of.false)

pub returns-then-is_of-clause-yes : goal.returns-then-is_of-clause-yes
returns-then-is_of-clause-yes c = λ h.
    let touched = c.args.touched.now in
    let point = c.point-item.result in
    let there : Contains touched point = subst (Contains touched) (sym c.point-item.is) (Contains-get_or touched c.loop-point.point-index point c.loop-point-test.true) in
    record { point = point; member = there; first = c.is_of.ensures.yes c.if-is_of.true }

pub returns-clause-no : goal.returns-clause-no
returns-clause-no c = λ h.
    let g = shown c.args.table.now in
    let touched = c.args.touched.now in
    not_touched g touched c.args.at (each_all (IsNotOf g c.args.at) touched c.loop-point.point-index (omega arith) c.loop-point.invariant)
