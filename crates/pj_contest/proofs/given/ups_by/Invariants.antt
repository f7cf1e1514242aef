use Rattle.std.proofs.Common.{◌≡◌, take, map}
use Rattle.pj_contest.specs.Marks.{up_row}
use Rattle.pj_contest.proofs.given.ups_by.Given as goal

abbrev pub invariant-loop-at : goal.invariant-loop-at
invariant-loop-at l = l.rows.items ≡ map (λ at. up_row at l.by) (take l.at-index l.points)
