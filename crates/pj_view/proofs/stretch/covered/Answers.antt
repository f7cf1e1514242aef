use Rattle.std.proofs.Common.{subst, arith}
use Rattle.std.specs.Prelude.{Contains}
use Rattle.pj_change.proofs.NeedNumbers.{delete_owner, revive_owner}
use Rattle.pj_view.proofs.stretch.covered.Goals as goal

pub numbered-requires : goal.numbered-requires
numbered-requires c =
    let r = c.args.«record».now in
    let d = c.in-Delete in
    let n = delete_owner r d.owner d.start d.end d.by (subst (λ h. Contains r.change.hunks h) d.is c.requires) in
    omega (arith, n)

pub numbered-requires-in-Revive : goal.numbered-requires-in-Revive
numbered-requires-in-Revive c =
    let r = c.args.«record».now in
    let d = c.in-Revive in
    let n = revive_owner r d.owner d.start d.end d.by (subst (λ h. Contains r.change.hunks h) d.is c.requires) in
    omega (arith, n)
