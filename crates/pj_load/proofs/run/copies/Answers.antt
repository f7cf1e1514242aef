use Rattle.std.proofs.Common.{◌≡◌, [], ◌∷◌, ◌++◌, take, ◌∙◌, sym, ap}
use Rattle.std.proofs.lemmas.List.{take_more}
use Rattle.pj_load.proofs.Parting.{whole_front}
use Rattle.pj_load.proofs.run.copies.Goals as goal

pub loop-script-init : goal.loop-script-init
loop-script-init c = c.new-all.ensures.items

pub loop-script-preserved : goal.loop-script-preserved
loop-script-preserved c =
    let copied : c.of.result ≡ c.script-item.result = c.of.ensures ∙ c.in_ok-extend_from_slice.ensures.items ∙ ap (λ l. l ++ c.items.result.now) c.new-copy.ensures.items ∙ c.items.ensures in
    c.in_ok-push.ensures.items ∙ ap (λ x. c.loop-script.all.items ++ x ∷ []) copied ∙ ap (λ l. l ++ c.script-item.result ∷ []) c.loop-script.invariant
    ∙ ap (λ x. take c.loop-script.script-index c.args.scripts.now ++ x ∷ []) c.script-item.is ∙ sym (take_more c.args.scripts.now c.loop-script.script-index c.script-item.result c.loop-script-test.true)

pub returns : goal.returns
returns c = c.loop-script.invariant ∙ whole_front c.args.scripts.now c.loop-script.script-index c.loop-script-test.false
