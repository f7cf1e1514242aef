use Rattle.std.proofs.Common.{sym, ◌∙◌, arith}
use Rattle.std.proofs.lemmas.Bool.Decides.{nat_tests}
use Rattle.pj_repo.proofs.Sharing.{last_is}
use Rattle.pj_repo.proofs.share.stands_at.Goals as goal

pub returns-in-Some : goal.returns-in-Some
returns-in-Some c = λ same.
    let last = last_is c.args.state.now c.standing.ensures.legal c.args.name.now c.in-Some.standing.now c.in-Some.ensures.found in
    sym last ∙ grind (arith, nat_tests, same)
