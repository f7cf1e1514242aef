use Rattle.std.proofs.Common.{◌∙◌, sym, ◌<◌, ◌^◌, arith}
use Rattle.std.specs.declared.cmp.Ordering.TheVariants.{Less, Greater}
use Rattle.pj_change.proofs.EqualNames.{point_tied}
use Rattle.pj_dead.proofs.NextTargets.{none_after, other_after, same_after, points_apart}
use Rattle.pj_dead.proofs.pseudo.target_after.Goals as goal

pub returns-in_err-found : goal.returns-in_err-found
returns-in_err-found c = rw c.from_residual.ensures (none_after c.args.rows.now c.args.key c.in_err-found.ensures)

pub returns-in-Equal : goal.returns-in-Equal
returns-in-Equal c =
    let row = c.in_ok-found.found.now in
    let small : row.least.offset < 2 ^ 32 = omega (arith, c.offset_of-offset.ensures.same, c.offset_of-offset.ensures.small) in
    same_after c.args.rows.now c.args.key c.len-rising.ensures.rising row c.in_ok-found.field-0-1.now c.in_ok-found.ensures small (point_tied row.source c.args.key.source (sym c.cmp.ensures ∙ c.in-Equal.is))

pub returns-in-Less : goal.returns-in-Less
returns-in-Less c =
    let row = c.in_ok-found.found.now in
    other_after c.args.rows.now c.args.key c.len-rising.ensures.rising row c.in_ok-found.field-0-1.now c.in_ok-found.ensures (points_apart row.source c.args.key.source Less (sym c.cmp.ensures ∙ c.in-Less.is) (λ e. cc))

pub returns-in-Greater : goal.returns-in-Greater
returns-in-Greater c =
    let row = c.in_ok-found.found.now in
    other_after c.args.rows.now c.args.key c.len-rising.ensures.rising row c.in_ok-found.field-0-1.now c.in_ok-found.ensures (points_apart row.source c.args.key.source Greater (sym c.cmp.ensures ∙ c.in-Greater.is) (λ e. cc))
