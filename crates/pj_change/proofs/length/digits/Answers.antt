use Rattle.std.proofs.Common.{arith, sym, ap, ◌∙◌, length}
use Rattle.std.specs.Prelude.{decimal}
use Rattle.std.proofs.lemmas.Fmt.{decimal_digit}
use Rattle.pj_change.proofs.LengthLemmas.{length-decimal}
use Rattle.pj_change.proofs.length.digits.Goals as goal

pub returns-in-None-clause-exact : goal.returns-in-None-clause-exact
returns-in-None-clause-exact c = sym (ap (λ n. length (decimal n)) c.in-None.ensures.none ∙ ap length (decimal_digit 0 (omega arith)))

pub returns-in-Some-clause-exact : goal.returns-in-Some-clause-exact
returns-in-Some-clause-exact c = omega (arith, length-decimal c.in-Some.log c.args.number c.in-Some.ensures.power_le c.in-Some.ensures.next_power_gt c.ranges.number.fits)
