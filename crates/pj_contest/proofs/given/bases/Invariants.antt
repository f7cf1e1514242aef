use Rattle.std.proofs.Common.{◌≡◌, take}
use Rattle.std.specs.Prelude.{flat_map}
use Rattle.pj_change.specs.Contested.{base_of}
use Rattle.pj_contest.specs.Given.{bases_at}
use Rattle.pj_contest.proofs.given.bases.Given as goal

abbrev pub invariant-loop-hunk : goal.invariant-loop-hunk
invariant-loop-hunk l = l.bases.items ≡ flat_map (λ h. bases_at l.record (base_of h)) (take l.hunk-index l.hunk-items)
