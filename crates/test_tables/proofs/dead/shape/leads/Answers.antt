use Rattle.std.proofs.Common.{◌∙◌, sym, subst, arith}
use Rattle.std.specs.Prelude.{Contains}
use Rattle.std.proofs.lemmas.List.Elements.{Contains-get_or}
use Rattle.pj_change.proofs.Members.{any_member}
use Rattle.test_tables.specs.ListedGraphs.{joins}
use Rattle.test_tables.proofs.Found.{none_yet, none_at_all}
use Rattle.test_tables.proofs.dead.shape.leads.Goals as goal

pub returns-then-joins : goal.returns-then-joins
returns-then-joins c =
    let arrows = c.args.arrows.now in
    let arrow = c.arrow-item.result in
    let there : Contains arrows arrow = subst (Contains arrows) (sym c.arrow-item.is) (Contains-get_or arrows c.loop-arrow.arrow-index arrow c.loop-arrow-test.true) in
    sym (any_member (joins c.args.from c.args.to) arrows arrow there (sym c.joins.ensures ∙ c.if-joins.true))

pub loop-arrow-preserved : goal.loop-arrow-preserved
loop-arrow-preserved c = none_yet (joins c.args.from c.args.to) c.args.arrows.now c.loop-arrow.arrow-index c.arrow-item.result c.loop-arrow-test.true c.arrow-item.is c.loop-arrow.invariant (sym c.joins.ensures ∙ c.if-joins.false)

pub returns : goal.returns
returns c = sym (none_at_all (joins c.args.from c.args.to) c.args.arrows.now c.loop-arrow.arrow-index (omega arith) c.loop-arrow.invariant)
