use Rattle.pj_deps.specs.Dependents.{Dependents}
use Rattle.pj_deps.proofs.LeastHolders.{none_after, least_after, none_of_need}
use Rattle.pj_deps.proofs.deps.Deps.holder_above.Goals as goal
use Rattle.pj_change.proofs.EqualNames.{equal_names, other_names}

pub returns-in_err-next : goal.returns-in_err-next
returns-in_err-next c =
    let d : Dependents = record { held = c.self.inside.held; holders = c.self.inside.holders } in
    rw (c.from_residual.ensures, ← c.self.view_is) (none_after d c.self.invariant.holders_rise c.args.pair.need c.args.pair.holder c.in_err-next.ensures)

pub returns-then-ne : goal.returns-then-ne
returns-then-ne c =
    let d : Dependents = record { held = c.self.inside.held; holders = c.self.inside.holders } in
    rw (← c.self.view_is) (none_of_need d c.self.invariant.holders_rise c.args.pair.need c.args.pair.holder _ _ c.in_ok-next.ensures (other_names _ _ c.if-ne.ensures))

pub returns : goal.returns
returns c =
    let d : Dependents = record { held = c.self.inside.held; holders = c.self.inside.holders } in
    rw (← c.self.view_is) (least_after d c.self.invariant.holders_rise c.args.pair.need c.args.pair.holder _ _ c.in_ok-next.ensures (equal_names _ _ c.if-ne.ensures))
