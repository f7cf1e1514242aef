use Rattle.pj_print.proofs.Prints.{AreEntriesUpTo}
use Rattle.pj_output.proofs.print.join_entries.Given as goal

-- the bytes so far, and those of the entries that are left, are those of all
abbrev pub invariant-loop-number : goal.invariant-loop-number
invariant-loop-number l = AreEntriesUpTo l.tables l.steps l.out.items l.number
