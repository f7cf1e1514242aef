use Rattle.std.proofs.Common.{arith, sym, subst, List}
use Rattle.std.specs.Prelude.{Contains}
use Rattle.std.proofs.lemmas.List.Elements.{Contains-get_or}
use Rattle.pj_change.proofs.Members.{moved}
use Rattle.test_tables.specs.declared.dead.shape.Shape.{Shape}
use Rattle.test_tables.specs.States.{shown}
use Rattle.test_tables.specs.Whole.{first_is_vertex}
use Rattle.test_tables.proofs.Alike.{IsFine, each_none, each_more, each_all, all_kept}
use Rattle.test_tables.proofs.dead.kept.is_kept.Goals as goal

pub loop-shape-init : goal.loop-shape-init
loop-shape-init c = each_none (IsFine (shown c.args.before.now) (shown c.args.after.now) c.args.touched.now) c.deref-shape-items.result.now

pub is_fine-requires : goal.is_fine-requires
is_fine-requires c =
    let shapes = c.deref-shape-items.result.now in
    let shape = c.shape-item.result in
    let there : Contains shapes shape = subst (Contains shapes) (sym c.shape-item.is) (Contains-get_or shapes c.loop-shape.shape-index shape c.loop-shape-test.true) in
    first_is_vertex c.args.before.now.shapes.items c.args.before.now.arrows.items c.args.before.now.apart shape (subst (λ (l : List Shape). Contains l shape) c.deref-shape-items.ensures.value there)

pub loop-shape-preserved : goal.loop-shape-preserved
loop-shape-preserved c =
    each_more (IsFine (shown c.args.before.now) (shown c.args.after.now) c.args.touched.now) c.deref-shape-items.result.now c.loop-shape.shape-index c.shape-item.result c.loop-shape-test.true c.shape-item.is c.loop-shape.invariant
    (c.in_ok-is_fine.ensures c.if-not-branch.false)

pub returns : goal.returns
returns c = λ h.
    let before = c.args.before.now in
    let Fine : Shape → Type 0 = IsFine (shown before) (shown c.args.after.now) c.args.touched.now in
    let all = each_all Fine c.deref-shape-items.result.now c.loop-shape.shape-index (omega arith) c.loop-shape.invariant in
    all_kept before.shapes.items before.arrows.items before.apart (shown c.args.after.now) c.args.touched.now (λ s m. all s (moved s (sym c.deref-shape-items.ensures.value) m))
