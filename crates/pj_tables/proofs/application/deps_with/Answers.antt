use Rattle.std.proofs.Common.{sym, subst, [], ◌∷◌, ◌++◌}
use Rattle.pj_deps.specs.Dependents.{AreDepsOf}
use Rattle.pj_tables.proofs.application.deps_with.Goals as goal

pub returns-clause-set : goal.returns-clause-set
returns-clause-set g c =
    subst (AreDepsOf (c.args._list.now ++ c.args.change.now ∷ [])) (sym c.in_ok-shared.ensures.ok)
    (c.in_ok-deps.ensures.set c.args._list.now (subst (AreDepsOf c.args._list.now) (sym c.in_ok-before.ensures) c.requires.table))
