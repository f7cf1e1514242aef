use Rattle.std.proofs.Common.{◌≡◌, take, map}
use Rattle.pj_contest.specs.Marks.{base_row}
use Rattle.pj_contest.proofs.given.bases_by.Given as goal

abbrev pub invariant-loop-at : goal.invariant-loop-at
invariant-loop-at l = l.rows.items ≡ map (λ at. base_row at l.by) (take l.at-index l.places)
