use Rattle.std.proofs.Common.{sym}
use Rattle.pj_dead.proofs.Knowing.{goes_near}
use Rattle.pj_dead.proofs.search.with_near.Goals as goal

pub returns-clause-more : goal.returns-clause-more
returns-clause-more g c =
    let h = g.V.View.graph c.args.view.now in
    let n = c.in-Some.neighbours.now in
    goes_near h c.args.at n (c.in_ok-learn.ensures.known.neighbours c.args.at n (sym c.in-Some.ensures)) c.args.way c.args.found c.in_ok-more.more c.in_ok-more.ensures
