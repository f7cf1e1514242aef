use Rattle.std.proofs.Common.{◌≡◌, ◌++◌, length, map}
use Rattle.pj_apply.specs.Walks.{remaining}
use Rattle.pj_channel.proofs.listing.names_of.Given as goal

abbrev pub invariant-loop-change : goal.invariant-loop-change
invariant-loop-change l = l.names.items ++ map (λ r. r.name) (remaining l.held l.after) ≡ map (λ r. r.name) l.held

abbrev pub decreases-loop-change : goal.decreases-loop-change
decreases-loop-change l = length (remaining l.held l.after)
