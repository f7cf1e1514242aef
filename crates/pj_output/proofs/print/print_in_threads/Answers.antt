use Rattle.std.proofs.Common.{◌≡◌, ℕ, List, None, Ok, sym, subst, rules}
use Rattle.pj_change.specs.FirstWide.{IsFirstWide}
use Rattle.pj_change.specs.Print.{IsPrint}
use Rattle.pj_change.specs.Printing.{IsPrintAnswer}
use Rattle.pj_change.specs.Walk.{IsWalk}
use Rattle.pj_change.proofs.PrintAnswers.{has_print}
use Rattle.pj_output.proofs.print.print_in_threads.Goals as goal

pub returns : goal.returns
returns g c =
    let S = c.args.tables.now in
    let same : c.items-2.result.now ≡ c.in_ok-walk.walk = search rules in
    let none : IsFirstWide S c.args.live None = record { walk = c.in_ok-walk.walk; is_walk = c.in_ok-walk.ensures.is_walk; first = c.in_ok-walk.ensures.narrow } in
    let is : IsPrint S c.in_ok-bytes.bytes.items =
    record { walk = c.items-2.result.now; is_walk = subst (IsWalk S) (sym same) c.in_ok-walk.ensures.is_walk; entries = c.in_ok-bytes.ensures } in
    subst (λ (b : List ℕ). IsPrintAnswer S c.args.live (Ok b)) (sym c.of.ensures) (has_print S c.args.live c.list-list.ensures.lawful c.in_ok-bytes.bytes.items none is)
