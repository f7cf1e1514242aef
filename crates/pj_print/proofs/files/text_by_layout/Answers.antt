use Rattle.std.proofs.Common.{◌≡◌, ℕ, ◌<◌, true, All, sym, ◌∙◌, subst, Vec, Global}
use Rattle.std.specs.List.{range_with_len}
use Rattle.std.proofs.lemmas.Result.{IfOk-weaker}
use Rattle.pj_bits.specs.Matrix.{bit, size as size_of}
use Rattle.pj_change.specs.Layout.{IsLayout}
use Rattle.pj_change.specs.MarkedText.{marked}
use Rattle.pj_layout.specs.Orders.{Before}
use Rattle.pj_layout.specs.Shapes.{shape}
use Rattle.pj_layout.proofs.Predecessors.{all_below}
use Rattle.pj_reach.specs.Closure.{classes}
use Rattle.pj_marks.specs.Classes.{classes_of}
use Rattle.pj_marks.proofs.Naming.{layout_below}
use Rattle.pj_print.specs.FileParts.{IsTextOfParts}
use Rattle.pj_print.proofs.FileTexts.{IsClosed, text_of_parts}
use Rattle.pj_print.proofs.files.text_by_layout.Goals as goal

pub mark-requires-clause-named : goal.mark-requires-clause-named
mark-requires-clause-named g c =
    layout_below (Before c.before-order.result.now) (classes c.in_ok-reached.reached) 0 (range_with_len 0 (size_of c.before-order.result.now)) (shape c.in_ok-layout.layout)
    (subst (λ n. All (λ x. x < n) (range_with_len 0 (size_of c.before-order.result.now))) c.before-order.ensures.size (all_below (size_of c.before-order.result.now)))
    c.in_ok-layout.ensures

pub returns : goal.returns
returns g c =
    let r = c.in_ok-reached.reached in
    let piece = g.T.Texts.piece c.args.texts.now in
    let squared : size_of r.before ≡ classes r = subst (λ rows. size_of rows ≡ classes r) c.before-order.ensures.rows c.before-order.ensures.size in
    let layout : IsLayout (Before r.before) 0 (range_with_len 0 (size_of r.before)) (shape c.in_ok-layout.layout) =
    subst (λ rows. IsLayout (Before rows) 0 (range_with_len 0 (size_of rows)) (shape c.in_ok-layout.layout)) c.before-order.ensures.rows c.in_ok-layout.ensures in
    let inside : (x y : ℕ) → bit r.before x y ≡ true → (x < classes r) × (y < classes r) = λ x y is_set.
    subst (λ n. (x < n) × (y < n)) (c.size.ensures.size ∙ c.before-order.ensures.size) (c.size.ensures.inside x y (subst (λ rows. bit rows x y ≡ true) (sym c.before-order.ensures.rows) is_set)) in
    let closed : IsClosed c.args.size c.args.edges.now r = record {
      sized = c.in_ok-reached.ensures.size;
      strong = c.in_ok-reached.ensures.classes;
      numbers = c.in_ok-reached.ensures.numbers;
      cycles = c.in_ok-reached.ensures.cyclic;
      order = c.in_ok-reached.ensures.order;
      squared = squared;
      inside = inside;
    } in
    IfOk-weaker c.mark.result (λ (text : Vec ℕ Global). text.items ≡ marked (classes_of piece r) (shape c.in_ok-layout.layout)) (λ (text : Vec ℕ Global). IsTextOfParts c.args.size c.args.edges.now piece text.items)
    (λ text is. text_of_parts c.args.size c.args.edges.now piece r closed (shape c.in_ok-layout.layout) layout text.items is) c.mark.ensures
