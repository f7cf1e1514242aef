use Rattle.std.proofs.Common.{sym, subst, [], ◌∷◌, ◌++◌}
use Rattle.pj_outline.specs.OutlineOf.{IsOutlineOf}
use Rattle.pj_tables.proofs.application.outline_with.Goals as goal

pub with_change-requires : goal.with_change-requires
with_change-requires g c = record {
  list = c.args._list.now;
  lawful = c.requires.lawful;
  follows = c.requires.follows;
  is = subst (IsOutlineOf c.args._list.now) (sym c.in_ok-before.ensures) c.requires.table;
}

pub returns-clause-set : goal.returns-clause-set
returns-clause-set g c =
    subst (IsOutlineOf (c.args._list.now ++ c.args.change.now ∷ [])) (sym c.in_ok-shared.ensures.ok)
    (c.in_ok-outline.ensures.set c.args._list.now c.requires.lawful c.requires.follows (subst (IsOutlineOf c.args._list.now) (sym c.in_ok-before.ensures) c.requires.table))
