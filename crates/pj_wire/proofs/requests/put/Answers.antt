use Rattle.std.proofs.Common.{codes}
use Rattle.pj_wire.proofs.Puts.{IsShort, behind, no_length_line, no_text, put_read}
use Rattle.pj_wire.proofs.Sequences.{answers, within_word}
use Rattle.pj_wire.proofs.requests.put.Goals as goal

pub returns-in-None : goal.returns-in-None
returns-in-None c = within_word behind IsShort c.args.bytes.now (codes "put ") c.in-None.ensures

pub returns-in-Some-text_length : goal.returns-in-Some-text_length
returns-in-Some-text_length c =
    answers c.text.result _ _ _ _
    (no_text c.args.bytes.now _ c.in-Some.ensures c.in-Some-text_length.count _ c.in-Some-text_length.ensures.0 c.in-Some-text_length.ensures.1)
    (λ read is. put_read c.args.bytes.now _ _ _ _ c.in-Some-text_length.count c.in-Some.ensures c.in-Some-text_length.ensures.0 c.in-Some-text_length.ensures.1 is.0 is.1)
    c.text.ensures

pub returns-in-None-text_length : goal.returns-in-None-text_length
returns-in-None-text_length c = no_length_line c.args.bytes.now _ c.in-Some.ensures c.in-None-text_length.ensures
