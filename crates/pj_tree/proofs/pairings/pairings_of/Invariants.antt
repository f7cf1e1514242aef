use Rattle.std.proofs.Common.{map, take}
use Rattle.pj_tree.specs.Pairings.{ArePairings}
use Rattle.pj_tree.proofs.pairings.pairings_of.Given as goal

abbrev pub invariant-loop-row : goal.invariant-loop-row
invariant-loop-row g l = ArePairings (g.V.Lives.status l.lives) (map (λ r. r.now) (take l.row-index l.rows)) l.pairings.items
