use Rattle.std.proofs.Common.{rules, ◌≡◌, ℕ, List, sym, subst, Ok}
use Rattle.pj_change.specs.declared.change.Record.{Record}
use Rattle.pj_change.specs.Lawful.{IsLawful}
use Rattle.pj_plain.specs.declared.print.Printed.{Printed}
use Rattle.pj_plain.specs.declared.print.Printed.TheVariants as printed
use Rattle.pj_change.specs.Printing.{IsPrintAnswer}
use Rattle.pj_plain.specs.Printing.{IsPrinted}
use Rattle.pj_change.specs.Shared.{records}
use Rattle.pj_change.proofs.PrintAnswers.{out_of_memory, has_wide, has_print}
use Rattle.pj_plain.proofs.channel.PlainChannel.print.Goals as goal

-- what a print comes to, of the list and the outcome themselves
printed_same : (limit : ℕ) (a b : List Record) (p q : Printed) → a ≡ b → p ≡ q → IsPrinted a limit p → IsPrinted b limit q
printed_same limit a b p q l e is = subst (λ list. IsPrinted list limit q) l (subst (IsPrinted a limit) e is)

pub returns-in-Ok-Text : goal.returns-in-Ok-Text
returns-in-Ok-Text c =
    let list = c.args.self.now in
    let bytes = c.in-Ok-Text.bytes in
    let lawful : IsLawful list = subst IsLawful c.self.view_is c.self.invariant in
    let same : records c.deref.result.now ≡ list = search rules in
    let is = printed_same c.args.live (records c.deref.result.now) list c.in-Ok-Text.field-0 (printed.Text bytes) same c.in-Ok-Text.field-0-is c.in-Ok-Text.ensures in
    subst (λ (b : List ℕ). IsPrintAnswer list c.args.live (Ok b)) (sym c.of.ensures) (has_print list c.args.live lawful bytes.items is.0 is.1)

pub returns-in-Ok-Wide : goal.returns-in-Ok-Wide
returns-in-Ok-Wide c =
    let list = c.args.self.now in
    let lawful : IsLawful list = subst IsLawful c.self.view_is c.self.invariant in
    let same : records c.deref.result.now ≡ list = search rules in
    has_wide list c.args.live lawful c.in-Ok-Wide.inode
    (printed_same c.args.live (records c.deref.result.now) list c.in-Ok-Wide.field-0 (printed.Wide c.in-Ok-Wide.inode) same c.in-Ok-Wide.field-0-is c.in-Ok-Wide.ensures)

pub returns-in-Err : goal.returns-in-Err
returns-in-Err c = out_of_memory c.args.self.now c.args.live
