-- The lines so far, and those of the other entries, are all lines.
use Rattle.std.proofs.Common.{◌≡◌, ◌+◌, ◌++◌, drop}
use Rattle.pj_machine.specs.JournalText.{journal_from}
use Rattle.pj_machine.proofs.entry_lines.put_lines.Given as goal

abbrev pub invariant-loop-index : goal.invariant-loop-index
invariant-loop-index l = l.out.items ++ journal_from (l.index + 1) (drop l.index l.entries) ≡ l.fn.out.items ++ journal_from 1 l.entries
