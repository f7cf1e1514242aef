use Rattle.std.proofs.Common.{◌≡◌, ◌∙◌, sym, ap, arith, Bool, ◌++◌, ◌∷◌, [], cond, take}
use Rattle.std.specs.List.{filter}
use Rattle.pj_change.specs.declared.point.Point.{Point}
use Rattle.test_tables.specs.ListedGraphs.{leads, firsts}
use Rattle.test_tables.proofs.Found.{one_more, all_of_them}
use Rattle.test_tables.proofs.dead.table.TableView.outs.Goals as goal

pub loop-shape-preserved : goal.loop-shape-preserved
loop-shape-preserved c =
    let t : Point → Bool = λ v. leads c.args.self.now.arrows.items c.args.at v in
    let shapes = c.deref-shape-items.result.now in
    let shape = c.shape-item.result in
    let wanted : c.leads-wanted.result ≡ t shape.first = rw c.deref.ensures.value at c.leads-wanted.ensures in
    c.in_ok-add_wanted.ensures ∙ ap (λ l. l ++ cond c.leads-wanted.result (shape.first ∷ []) []) c.loop-shape.invariant
    ∙ ap (λ b. filter t (firsts (take c.loop-shape.shape-index shapes)) ++ cond b (shape.first ∷ []) []) wanted
    ∙ sym (one_more t shapes c.loop-shape.shape-index shape c.loop-shape-test.true c.shape-item.is)

pub returns : goal.returns
returns c =
    let t : Point → Bool = λ v. leads c.args.self.now.arrows.items c.args.at v in
    let shapes = c.deref-shape-items.result.now in
    c.loop-shape.invariant ∙ all_of_them t shapes c.loop-shape.shape-index (omega arith) ∙ ap (λ l. filter t (firsts l)) c.deref-shape-items.ensures.value
