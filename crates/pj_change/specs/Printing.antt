-- The print of a channel that holds a list of changes: each answer, and where it comes.
use Rattle.std.specs.Prelude.{ℕ, List, None, Some, Result, Ok, Err}
use Rattle.pj_change.specs.declared.point.Point.{Point}
use Rattle.pj_change.specs.declared.change.Record.{Record}
use Rattle.pj_change.specs.declared.refusals.PrintRefusal.{PrintRefusal}
use Rattle.pj_change.specs.declared.refusals.PrintRefusal.TheVariants.{Wide, Memory}
use Rattle.pj_change.specs.FirstWide.{IsFirstWide}
use Rattle.pj_change.specs.Print.{IsPrint}
use Rattle.pj_change.specs.Answers.{ComesWhere}

-- what a print answers: with a limit to the live vertices of a file
pub record IsPrintAnswer (list : List Record) (limit : ℕ) (result : Result (List ℕ) PrintRefusal) : Type 0 where
  pub wide : (inode : Point) → ComesWhere Memory result (Err (Wide inode)) (IsFirstWide list limit (Some inode))
  pub print : (bytes : List ℕ) → ComesWhere Memory result (Ok bytes) (IsFirstWide list limit None × IsPrint list bytes)
