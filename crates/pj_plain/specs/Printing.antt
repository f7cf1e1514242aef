-- What the print of a list of changes comes to, where memory does not want.
use Rattle.std.specs.Prelude.{ℕ, List, None, Some}
use Rattle.pj_change.specs.declared.change.Record.{Record}
use Rattle.pj_change.specs.FirstWide.{IsFirstWide}
use Rattle.pj_change.specs.Print.{IsPrint}
use Rattle.pj_plain.specs.declared.print.Printed.{Printed}
use Rattle.pj_plain.specs.declared.print.Printed.TheVariants as printed

-- the print, where no file has more live vertices than the limit, or else the first such file
abbrev pub IsPrinted : List Record → ℕ → Printed → Type 0
IsPrinted list limit (printed.Text bytes) = IsFirstWide list limit None × IsPrint list bytes.items
IsPrinted list limit (printed.Wide inode) = IsFirstWide list limit (Some inode)
