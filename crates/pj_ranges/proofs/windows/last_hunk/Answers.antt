use Rattle.std.proofs.Common.{arith}
use Rattle.pj_ranges.proofs.LastHunk.{hunk_upto}
use Rattle.pj_ranges.proofs.windows.last_hunk.Goals as goal

pub returns : goal.returns
returns c = λ by fits. hunk_upto by (record { change = c.of.result; hunk = 4294967295 }) c.of.ensures (omega arith)
