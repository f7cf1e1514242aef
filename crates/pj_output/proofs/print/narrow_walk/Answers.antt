use Rattle.std.proofs.Common.{◌≡◌, sym, subst, rules}
use Rattle.pj_change.specs.Walk.{IsWalk}
use Rattle.pj_change.proofs.PrintAnswers.{has_wide}
use Rattle.pj_output.proofs.print.narrow_walk.Goals as goal

pub returns-in-Some : goal.returns-in-Some
returns-in-Some c =
    let S = c.args.tables.now in
    let same : c.items.result.now ≡ c.in_ok-walk.walk = search rules in
    has_wide S c.args.limit c.list-list.ensures.lawful c.in-Some.inode
    (record { walk = c.items.result.now; is_walk = subst (IsWalk S) (sym same) c.in_ok-walk.ensures; first = c.in-Some.ensures })
