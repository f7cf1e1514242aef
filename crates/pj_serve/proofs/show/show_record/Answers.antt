use Rattle.std.proofs.Common.{ℕ, List, ◌++◌, ap, subst, ◌∙◌}
use Rattle.pj_io.specs.Sink.{AppendsFront}
use Rattle.pj_serve.proofs.show.show_record.Goals as goal

pub returns-in-Ok-give_all-clause-judged : goal.returns-in-Ok-give_all-clause-judged
returns-in-Ok-give_all-clause-judged g c = (c.args.named.now.change, c.args.named.now.spelled)

pub returns-in-Ok-give_all-clause-written : goal.returns-in-Ok-give_all-clause-written
returns-in-Ok-give_all-clause-written g c h = (
  c.args.named.now.change,
  c.args.named.now.spelled,
  c.in-Ok-give_all.ensures.bytes h ∙ ap (λ t. g.D.Sink.meaning.written c.args.sink.now ++ t) (c.as_slice.ensures.value ∙ c.in-Ok.ensures),
)

pub returns-clause-judged : goal.returns-clause-judged
returns-clause-judged g c = (c.args.named.now.change, c.args.named.now.spelled)

pub returns-clause-written : goal.returns-clause-written
returns-clause-written g c h =
    let P : List ℕ → Type 0 = λ bytes. AppendsFront (g.D.Sink.meaning.written c.args.sink.now) (g.D.Sink.meaning.written c.give_all.new.sink) bytes in
    (c.args.named.now.change, c.args.named.now.spelled, subst P (c.as_slice.ensures.value ∙ c.in-Ok.ensures) (c.in-Err.ensures.bytes h))
