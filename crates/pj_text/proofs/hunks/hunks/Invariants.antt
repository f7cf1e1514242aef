use Rattle.std.proofs.Common.{◌≡◌, ◌-◌}
use Rattle.pj_scan.specs.Scan.{rest as left}
use Rattle.pj_text.specs.Reading.{hunks_at}
use Rattle.pj_text.proofs.Loops.{with_front}
use Rattle.pj_text.proofs.hunks.hunks.Given as goal

abbrev pub invariant-loop : goal.invariant-loop
invariant-loop l = with_front l.hunks.items (hunks_at (4096 - l.counter) (left l.scan)) ≡ hunks_at 4096 (left l.fn.scan)
