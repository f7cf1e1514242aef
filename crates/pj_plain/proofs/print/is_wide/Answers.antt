use Rattle.std.proofs.Common.{◌≡◌, ℕ, length, sym, subst, arith, rules}
use Rattle.std.specs.Prelude.{◌↔◌, IsTrue, nat_lt}
use Rattle.pj_change.specs.FirstWide.{IsWide}
use Rattle.pj_change.specs.Shared.{records}
use Rattle.pj_print.proofs.Prints.{wide_by_count}
use Rattle.pj_plain.proofs.print.is_wide.Goals as goal

pub returns-in_ok-live-in-File : goal.returns-in_ok-live-in-File
returns-in_ok-live-in-File c =
    let S = records c.args.set.now.changes.now in
    let live = c.in_ok-live-in-File.live in
    let count : c.len.result ≡ length live.items = first_of (omega arith, search rules, grind arith) in
    subst (λ (n : ℕ). IsTrue (nat_lt c.args.limit n) ↔ IsWide S c.args.limit c.args.step.now) (sym count)
    (wide_by_count S c.args.limit c.args.step.now live.items c.in-File.is c.in_ok-live-in-File.ensures)
