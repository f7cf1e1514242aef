use Rattle.std.proofs.Common.{◌≡◌, ◌++◌, take}
use Rattle.pj_gen.specs.Pieces.{need_lines}
use Rattle.pj_gen.proofs.pieces.put_needs.Given as goal

abbrev pub invariant-loop-need : goal.invariant-loop-need
invariant-loop-need l = l.out.items ≡ l.fn.out.items ++ need_lines (take l.need-index l.needs)
