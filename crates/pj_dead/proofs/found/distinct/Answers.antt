use Rattle.std.proofs.Common.{subst}
use Rattle.std.specs.Prelude.{Contains}
use Rattle.pj_dead.specs.Searches.{GoesOn}
use Rattle.pj_dead.proofs.Searching.{goes_from_none}
use Rattle.pj_dead.proofs.found.distinct.Goals as goal

pub returns : goal.returns
returns c =
    let points = c.args.points.now in
    let found = c.in_ok-found.found in
    goes_from_none (Contains points) found (subst (λ old. GoesOn (Contains points) old found) c.new.ensures c.in_ok-found.ensures)
