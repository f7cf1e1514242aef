use Rattle.std.proofs.Common.{◌≡◌}
use Rattle.pj_output.specs.Targets.{LeadsTo}
use Rattle.pj_output.proofs.NextPoints.{left}
use Rattle.pj_output.proofs.PairWalks.{all_targets, IsWalked}
use Rattle.pj_output.proofs.pairs.add_pairs.Given as goal

-- the walk has the rows that it had, and the pairs of the targets before the next one are added
abbrev pub invariant-loop-found : goal.invariant-loop-found
invariant-loop-found l = record {
  same : l.walk ≡ l.initial.walk;
  walked : IsWalked (LeadsTo l.tables l.pseudo l.u) l.live l.from l.initial.pairs.items l.pairs.items l.found;
}

abbrev pub decreases-loop-found : goal.decreases-loop-found
decreases-loop-found l = left (all_targets l.tables l.pseudo l.u) l.found
