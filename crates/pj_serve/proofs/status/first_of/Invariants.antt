-- the ends so far are all `Done`
use Rattle.std.proofs.Common.{◌≡◌, drop}
use Rattle.pj_serve.specs.Status.{first_end}
use Rattle.pj_serve.proofs.status.first_of.Given as goal

abbrev pub invariant-loop-ended : goal.invariant-loop-ended
invariant-loop-ended l = first_end (drop l.ended-index l.ends) ≡ first_end l.ends
