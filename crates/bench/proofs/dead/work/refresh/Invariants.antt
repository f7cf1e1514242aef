use Rattle.pj_dead.specs.Pseudo.{AreRowsOf}
use Rattle.bench.specs.Boards.{graph_of}
use Rattle.bench.proofs.dead.work.refresh.Given as goal

abbrev pub invariant-loop : goal.invariant-loop
invariant-loop l = AreRowsOf (graph_of l.board.shape l.board.middle l.board.last) l.rows
