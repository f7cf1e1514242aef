use Rattle.std.proofs.Common.{sym, subst, ◌∷◌, ◌++◌}
use Rattle.pj_deps.specs.Dependents.{AreDepsOf}
use Rattle.test_tables.proofs.contests.history.needs_without.Goals as goal

pub returns : goal.returns
returns g c = λ before after out were. subst (AreDepsOf (before ++ after)) (sym c.in_ok-shared.ensures.ok) (c.in_ok-needs.ensures.set before after out (subst (AreDepsOf (before ++ c.args.change.now ∷ after)) (sym c.in_ok-share.ensures) were))
