use Rattle.std.proofs.Common.{◌≡◌, [], ⊎_elim, inl, inr, ap, ◌∙◌, arith}
use Rattle.std.proofs.lemmas.Option.{IfSome_then}
use Rattle.pj_book.specs.Token.{own}
use Rattle.bench.proofs.Many.{of_each, of_others}
use Rattle.bench.proofs.book.threads.count_in_many.Goals as goal

pub returns-clause-each : goal.returns-clause-each
returns-clause-each g c =
    let zero = c.passes_for.new.zero in
    let number : zero.number ≡ 0 = c.passes_for.ensures.number ∙ ap (λ p. p.number) c.start-book.ensures.pass in
    let nothing : own zero ≡ [] = c.passes_for.ensures.own ∙ ap own c.start-book.ensures.pass in
    let made = c.in_ok-passes.ensures.made in
    let one = c.start-book.ensures.made in
    IfSome_then c.closed.result c.closed.ensures (λ log is n pos le.
    of_each c.passes_for.new.book log zero c.in_ok-passes-2.passes.items c.in_ok-workers.workers.items c.args.labels.now is.0 is.1 c.in_ok-passes-2.ensures c.in_ok-workers.ensures number nothing n pos (omega arith))

pub returns-clause-others : goal.returns-clause-others
returns-clause-others g c =
    let zero = c.passes_for.new.zero in
    let number : zero.number ≡ 0 = c.passes_for.ensures.number ∙ ap (λ p. p.number) c.start-book.ensures.pass in
    let nothing : own zero ≡ [] = c.passes_for.ensures.own ∙ ap own c.start-book.ensures.pass in
    let made = c.in_ok-passes.ensures.made in
    let one = c.start-book.ensures.made in
    IfSome_then c.closed.result c.closed.ensures (λ log is n out.
    of_others c.passes_for.new.book log zero c.in_ok-passes-2.passes.items c.in_ok-workers.workers.items c.args.labels.now is.0 is.1 c.in_ok-passes-2.ensures c.in_ok-workers.ensures number nothing n
    (⊎_elim (λ first. inl first) (λ more. inr (omega arith)) out))
