use Rattle.std.proofs.Common.{◌∙◌, arith, sym, subst}
use Rattle.std.specs.Prelude.{Contains}
use Rattle.std.proofs.lemmas.List.Elements.{Contains-get_or}
use Rattle.pj_change.proofs.Members.{moved}
use Rattle.test_tables.specs.States.{shown}
use Rattle.test_tables.specs.Neighbours.{ComesAlike}
use Rattle.test_tables.specs.Whole.{graph_is_whole}
use Rattle.test_tables.proofs.Alike.{each_none, each_more, each_all}
use Rattle.test_tables.proofs.dead.kept.is_led_to_alike.Goals as goal

pub loop-from-init : goal.loop-from-init
loop-from-init c = each_none (λ u. ComesAlike (shown c.args.before.now) (shown c.args.after.now) u c.args.at) c.deref-from-items.result.now

pub comes_alike-requires-clause-from : goal.comes_alike-requires-clause-from
comes_alike-requires-clause-from c =
    let table = c.args.before.now in
    let list = c.deref-from-items.result.now in
    let from = c.from-item.result in
    let there : Contains list from = subst (Contains list) (sym c.from-item.is) (Contains-get_or list c.loop-from.from-index from c.loop-from-test.true) in
    let lawful = graph_is_whole table.shapes.items table.arrows.items table.apart in
    (lawful.out from c.args.at c.requires.before (moved from (c.deref-from-items.ensures.value ∙ c.in_ok-list.ensures) there)).0

pub loop-from-preserved : goal.loop-from-preserved
loop-from-preserved c =
    each_more (λ u. ComesAlike (shown c.args.before.now) (shown c.args.after.now) u c.args.at) c.deref-from-items.result.now c.loop-from.from-index c.from-item.result c.loop-from-test.true c.from-item.is c.loop-from.invariant (c.comes_alike.ensures c.if-not-comes_alike.false)

pub returns : goal.returns
returns c = λ h w m.
    each_all (λ u. ComesAlike (shown c.args.before.now) (shown c.args.after.now) u c.args.at) c.deref-from-items.result.now c.loop-from.from-index (omega arith) c.loop-from.invariant w (moved w (sym (c.deref-from-items.ensures.value ∙ c.in_ok-list.ensures)) m)
