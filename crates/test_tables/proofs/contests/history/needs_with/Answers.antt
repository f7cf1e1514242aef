use Rattle.std.proofs.Common.{sym, subst, [], ◌∷◌, ◌++◌}
use Rattle.pj_deps.specs.Dependents.{AreDepsOf}
use Rattle.test_tables.proofs.contests.history.needs_with.Goals as goal

pub returns : goal.returns
returns g c = subst (AreDepsOf (c.args.history.now ++ c.args.change.now ∷ [])) (sym c.in_ok-shared.ensures.ok) (c.in_ok-needs.ensures.set c.args.history.now (subst (AreDepsOf c.args.history.now) (sym c.in_ok-share.ensures) c.needs.ensures))
