use Rattle.std.proofs.Common.{ℕ, List, subst, ◌∙◌}
use Rattle.pj_io.specs.Causes.{Rose}
use Rattle.pj_serve.specs.Show.{Wrote}
use Rattle.pj_serve.proofs.show.answer.Goals as goal

pub returns-in-Ok-clause-written : goal.returns-in-Ok-clause-written
returns-in-Ok-clause-written g c h =
    let P : List ℕ → Type 0 = λ text.
    Wrote (Rose (g.D.Sink.meaning.faults c.args.sink.now) (g.D.Sink.meaning.faults c.show_record.new.sink)) text
    (g.D.Sink.meaning.written c.args.sink.now) (g.D.Sink.meaning.written c.show_record.new.sink) c.show_record.result in
    subst P (c.of-in-Ok.ensures.text ∙ c.of.ensures) (c.show_record.ensures.written h)
