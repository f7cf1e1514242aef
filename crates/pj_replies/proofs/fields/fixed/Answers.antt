use Rattle.pj_replies.proofs.Texts.{text_whole, text_part, text_apart}
use Rattle.pj_replies.proofs.fields.fixed.Goals as goal

pub returns-then-starts_with : goal.returns-then-starts_with
returns-then-starts_with g c = text_whole c.args.value c.args.text.now c.args.bytes.now _ c.starts_with.ensures.value c.if-starts_with.true

pub returns-then-starts_with-2 : goal.returns-then-starts_with-2
returns-then-starts_with-2 g c =
    text_part c.args.value c.args.text.now c.args.bytes.now _ _ c.starts_with.ensures.value c.if-starts_with.false c.starts_with-else-starts_with.ensures.value c.if-starts_with-2.true

pub returns : goal.returns
returns g c =
    text_apart c.args.value c.args.text.now c.args.bytes.now _ _ c.starts_with.ensures.value c.if-starts_with.false c.starts_with-else-starts_with.ensures.value c.if-starts_with-2.false
