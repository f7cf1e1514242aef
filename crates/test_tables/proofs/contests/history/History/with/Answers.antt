use Rattle.std.proofs.Common.{sym, subst, ◌∷◌, [], ◌++◌, List}
use Rattle.std.specs.Arc.{arc_value}
use Rattle.pj_change.specs.declared.change.Record.{Record}
use Rattle.pj_deps.specs.Dependents.{AreDepsOf}
use Rattle.test_tables.specs.Histories.{AreTables}
use Rattle.test_tables.proofs.contests.history.History.with.Goals as goal

pub of-requires : goal.of-requires
of-requires g c =
    subst (λ (l : List Record). AreTables l (arc_value c.in_ok-needs.needs) (arc_value c.args.contests)) (sym c.in_ok-held.ensures) (record {
      needs_are = subst (λ (q : Record). AreDepsOf (c.args.self.now ++ q ∷ []) (arc_value c.in_ok-needs.needs)) c.deref.ensures c.in_ok-needs.ensures;
      contests_are = c.requires.table;
    })
