use Rattle.std.proofs.Common.{◌≡◌, ◌≤◌, length}
use Rattle.pj_file_disk.proofs.file_disk.read_from.Given as goal

abbrev pub invariant-loop : goal.invariant-loop
invariant-loop l = (l.count ≤ length l.into) × (length l.into ≡ length l.fn.into)
