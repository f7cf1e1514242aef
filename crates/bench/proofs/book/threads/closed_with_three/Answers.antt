use Rattle.std.proofs.Common.{subst}
use Rattle.std.proofs.lemmas.Option.{IfSome_then}
use Rattle.pj_book.specs.IsOf.{IsOf}
use Rattle.bench.proofs.Three.{of_second, of_third, of_others}
use Rattle.bench.proofs.book.threads.closed_with_three.Goals as goal

pub returns-clause-one : goal.returns-clause-one
returns-clause-one g c =
    IfSome_then c.closed.result c.closed.ensures (λ log is.
    of_second log c.args.zero c.args.one c.args.two (subst (λ passes. IsOf log passes) c.in_ok-passes.ensures is.1) 1 c.requires.numbers.1)

pub returns-clause-two : goal.returns-clause-two
returns-clause-two g c =
    IfSome_then c.closed.result c.closed.ensures (λ log is.
    of_third log c.args.zero c.args.one c.args.two (subst (λ passes. IsOf log passes) c.in_ok-passes.ensures is.1) 2 c.requires.numbers.2)

pub returns-clause-others : goal.returns-clause-others
returns-clause-others g c =
    IfSome_then c.closed.result c.closed.ensures (λ log is.
    of_others log c.args.zero c.args.one c.args.two (subst (λ passes. IsOf log passes) c.in_ok-passes.ensures is.1) c.requires.none c.requires.numbers.0 c.requires.numbers.1 c.requires.numbers.2)
