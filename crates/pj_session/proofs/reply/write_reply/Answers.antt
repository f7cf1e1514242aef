use Rattle.std.proofs.Common.{◌≡◌, ◌∙◌, ap, sym, [], ◌∷◌, ◌++◌, subst}
use Rattle.pj_io.specs.Sink.{GivesAll}
use Rattle.pj_wire.specs.Replies.{head_of, tail_of}
use Rattle.pj_session.proofs.Bytes.{gave_more}
use Rattle.pj_session.proofs.reply.write_reply.Goals as goal

pub returns-in-Some-clause-bytes : goal.returns-in-Some-clause-bytes
returns-in-Some-clause-bytes g c h =
    let w = g.D.Sink.meaning.written c.args.sink.now in
    let body : c.items.result.now ++ 10 ∷ [] ≡ tail_of c.args.numbered.now = ap (λ t. t ++ 10 ∷ []) c.items.ensures ∙ sym c.in-Some.ensures in
    let later : GivesAll (g.D.Sink.meaning.written c.give_all.new.sink) (g.D.Sink.meaning.written c.write_body.new.sink) (tail_of c.args.numbered.now) c.write_body.result =
    subst (λ t. GivesAll (g.D.Sink.meaning.written c.give_all.new.sink) (g.D.Sink.meaning.written c.write_body.new.sink) t c.write_body.result) body (c.write_body.ensures.bytes (c.in-Ok.ensures.told ∙ h)) in
    gave_more _ _ _ (head_of c.args.numbered.now) (tail_of c.args.numbered.now) c.write_body.result (c.in-Ok.ensures.bytes h ∙ ap (λ t. w ++ t) c.head-count.ensures.bytes) later
