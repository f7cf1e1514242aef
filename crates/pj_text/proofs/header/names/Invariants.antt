use Rattle.std.proofs.Common.{◌≡◌, ◌-◌}
use Rattle.pj_scan.specs.Scan.{rest as left}
use Rattle.pj_text.specs.Reading.{names_at}
use Rattle.pj_text.proofs.Loops.{with_front}
use Rattle.pj_text.proofs.header.names.Given as goal

abbrev pub invariant-loop : goal.invariant-loop
invariant-loop l = with_front l.names.items (names_at l.label (l.most - l.counter) (left l.scan)) ≡ names_at l.label l.most (left l.fn.scan)
