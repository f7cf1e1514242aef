use Rattle.std.proofs.Common.{List, sym, subst}
use Rattle.std.specs.Arc.{arc_value}
use Rattle.pj_change.specs.declared.change.Record.{Record}
use Rattle.pj_contest.specs.Contests.{IsContestsOf}
use Rattle.test_tables.proofs.contests.history.History.contests.Goals as goal

pub returns : goal.returns
returns c =
    subst (IsContestsOf c.args.self.now) (sym c.deref.ensures)
    (subst (λ (l : List Record). IsContestsOf l (arc_value c.self.inside.contests)) c.self.view_is c.self.invariant.contests_are)
