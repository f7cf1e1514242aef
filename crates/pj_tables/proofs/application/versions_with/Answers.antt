use Rattle.std.proofs.Common.{sym, subst, [], ◌∷◌, ◌++◌}
use Rattle.pj_states.specs.OfSets.{AreVersionsOf}
use Rattle.pj_tables.proofs.application.versions_with.Goals as goal

pub with_change-requires : goal.with_change-requires
with_change-requires g c =
    c.nothing_is_said_by_others.ensures c.args._list.now c.in_ok-before.before (subst (AreVersionsOf c.args._list.now) (sym c.in_ok-before.ensures) c.requires.table) c.args.change.now.name c.requires.follows.fresh

pub returns-clause-set : goal.returns-clause-set
returns-clause-set g c =
    subst (AreVersionsOf (c.args._list.now ++ c.args.change.now ∷ [])) (sym c.in_ok-shared.ensures.ok)
    (c.in_ok-versions.ensures.set c.args._list.now (subst (AreVersionsOf c.args._list.now) (sym c.in_ok-before.ensures) c.requires.table))
