use Rattle.std.proofs.Common.{List, sym, subst}
use Rattle.std.specs.Arc.{arc_value}
use Rattle.pj_change.specs.declared.change.Record.{Record}
use Rattle.pj_states.specs.OfSets.{AreVersionsOf}
use Rattle.pj_tables.proofs.tables.Tables.versions.Goals as goal

pub returns : goal.returns
returns c =
    subst (AreVersionsOf c.args.self.now) (sym c.deref.ensures)
    (subst (λ (l : List Record). AreVersionsOf l (arc_value c.self.inside.versions)) c.self.view_is c.self.invariant.versions_are)
