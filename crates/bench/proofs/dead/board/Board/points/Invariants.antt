use Rattle.std.proofs.Common.{◌≡◌}
use Rattle.bench.specs.Boards.{points_below}
use Rattle.bench.proofs.dead.board.Board.points.Given as goal

abbrev pub invariant-loop-number : goal.invariant-loop-number
invariant-loop-number l = l.points.items ≡ points_below l.number
