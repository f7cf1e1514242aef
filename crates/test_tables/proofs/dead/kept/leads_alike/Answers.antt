use Rattle.std.proofs.Common.{◌∙◌, arith, sym, subst}
use Rattle.std.specs.Prelude.{Contains}
use Rattle.std.proofs.lemmas.List.Elements.{Contains-get_or}
use Rattle.pj_change.proofs.Members.{moved}
use Rattle.test_tables.specs.States.{shown}
use Rattle.test_tables.specs.Neighbours.{GoesAlike}
use Rattle.test_tables.specs.Whole.{graph_is_whole}
use Rattle.test_tables.proofs.Alike.{each_none, each_more, each_all}
use Rattle.test_tables.proofs.dead.kept.leads_alike.Goals as goal

pub loop-to-init : goal.loop-to-init
loop-to-init c = each_none (GoesAlike (shown c.args.before.now) (shown c.args.after.now) c.args.at) c.deref-to-items.result.now

pub goes_alike-requires-clause-to : goal.goes_alike-requires-clause-to
goes_alike-requires-clause-to c =
    let table = c.args.before.now in
    let list = c.deref-to-items.result.now in
    let to = c.to-item.result in
    let there : Contains list to = subst (Contains list) (sym c.to-item.is) (Contains-get_or list c.loop-to.to-index to c.loop-to-test.true) in
    let lawful = graph_is_whole table.shapes.items table.arrows.items table.apart in
    (lawful.into c.args.at to c.requires.before (moved to (c.deref-to-items.ensures.value ∙ c.in_ok-list.ensures) there)).0

pub loop-to-preserved : goal.loop-to-preserved
loop-to-preserved c =
    each_more (GoesAlike (shown c.args.before.now) (shown c.args.after.now) c.args.at) c.deref-to-items.result.now c.loop-to.to-index c.to-item.result c.loop-to-test.true c.to-item.is c.loop-to.invariant (c.goes_alike.ensures c.if-not-goes_alike.false)

pub returns : goal.returns
returns c = λ h w m.
    each_all (GoesAlike (shown c.args.before.now) (shown c.args.after.now) c.args.at) c.deref-to-items.result.now c.loop-to.to-index (omega arith) c.loop-to.invariant w (moved w (sym (c.deref-to-items.ensures.value ∙ c.in_ok-list.ensures)) m)
