use Rattle.std.proofs.Common.{◌≡◌, ◌-◌}
use Rattle.pj_scan.specs.Scan.{rest as left}
use Rattle.pj_text.specs.Reading.{number_at, others_at, joined_at}
use Rattle.pj_text.proofs.Loops.{with_front}
use Rattle.pj_text.proofs.lists.numbers.Given as goal

abbrev pub invariant-loop : goal.invariant-loop
invariant-loop l = with_front l.numbers.items (others_at number_at (64 - l.counter) (left l.scan)) ≡ joined_at number_at (left l.fn.scan)
