use Rattle.std.proofs.Common.{◌≡◌, ℕ, Option, Vec, Global, ◌∙◌, ap, subst}
use Rattle.std.specs.Prelude.{IfSome}
use Rattle.std.proofs.lemmas.Result.{IfOk-weaker}
use Rattle.pj_print.specs.FileParts.{IsTextOfParts}
use Rattle.pj_print.specs.InOrder.{text_in_order}
use Rattle.pj_print.specs.OnlyOrder.{IsOnlyOrder}
use Rattle.pj_print.proofs.OrderedTexts.{order_below, text_of_order}
use Rattle.pj_print.proofs.files.file_text.Goals as goal

pub write_in_order-requires : goal.write_in_order-requires
write_in_order-requires g c =
    let edges = c.args.edges.now in
    let only : IsOnlyOrder edges c.args.size c.in-Some.order.items = subst (λ (o : Option (Vec ℕ Global)). IfSome o (λ order. IsOnlyOrder edges c.args.size order.items)) c.in-Some.is c.in_ok-found.ensures in
    order_below c.args.size edges c.requires.graph c.in-Some.order.items only (g.T.Texts.piece c.args.texts.now) (g.T.Texts.size c.args.texts.now) c.requires.texts c.deref.result.now c.deref.ensures.value

pub returns-in-Some : goal.returns-in-Some
returns-in-Some g c =
    let edges = c.args.edges.now in
    let piece = g.T.Texts.piece c.args.texts.now in
    let only : IsOnlyOrder edges c.args.size c.in-Some.order.items = subst (λ (o : Option (Vec ℕ Global)). IfSome o (λ order. IsOnlyOrder edges c.args.size order.items)) c.in-Some.is c.in_ok-found.ensures in
    IfOk-weaker c.write_in_order.result (λ (text : Vec ℕ Global). text.items ≡ text_in_order piece c.deref.result.now) (λ (text : Vec ℕ Global). IsTextOfParts c.args.size edges piece text.items)
    (λ text is. text_of_order c.args.size edges c.requires.graph c.in-Some.order.items only piece text.items (is ∙ ap (text_in_order piece) c.deref.ensures.value)) c.write_in_order.ensures
