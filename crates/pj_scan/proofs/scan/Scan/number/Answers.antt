use Rattle.std.proofs.Common.{ap, ◌∙◌, subst, sym, ℕ, List}
use Rattle.std.specs.Char.{is_ascii_digit}
use Rattle.std.specs.List.{AllPass, take_while}
use Rattle.pj_scan.specs.Scan.{rest as left}
use Rattle.pj_scan.proofs.Fronts.{AllPass-take_while}
use Rattle.pj_scan.proofs.Numerals.{number_found, number_missed}
use Rattle.pj_scan.proofs.scan.Scan.number.Goals as goal

pub number_of-requires : goal.number_of-requires
number_of-requires c =
    let P : List ℕ → Type 0 = AllPass is_ascii_digit in
    subst P (sym c.leading_digits-digits.ensures) (AllPass-take_while is_ascii_digit c.rest.result.now)

pub returns-in_err-number-clause-none : goal.returns-in_err-number-clause-none
returns-in_err-number-clause-none c none =
    number_missed (left c.args.self.now) c.leading_digits-digits.result.now c.number_of.result (c.leading_digits-digits.ensures ∙ ap (take_while is_ascii_digit) c.rest.ensures)
    c.number_of.ensures c.in_err-number.was

pub returns-clause-number : goal.returns-clause-number
returns-clause-number c =
    number_found (left c.args.self.now) c.leading_digits-digits.result.now c.pass.result.now (left c.pass.new.self) c.in_ok-number.number
    (c.leading_digits-digits.ensures ∙ ap (take_while is_ascii_digit) c.rest.ensures) ((c.number_of.ensures c.in_ok-number.number).0 c.in_ok-number.was) c.pass.ensures.piece
