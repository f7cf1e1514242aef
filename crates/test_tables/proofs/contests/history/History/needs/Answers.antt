use Rattle.std.proofs.Common.{List, sym, subst}
use Rattle.std.specs.Arc.{arc_value}
use Rattle.pj_change.specs.declared.change.Record.{Record}
use Rattle.pj_deps.specs.Dependents.{AreDepsOf}
use Rattle.test_tables.proofs.contests.history.History.needs.Goals as goal

pub returns : goal.returns
returns c =
    subst (AreDepsOf c.args.self.now) (sym c.deref.ensures)
    (subst (λ (l : List Record). AreDepsOf l (arc_value c.self.inside.needs)) c.self.view_is c.self.invariant.needs_are)
