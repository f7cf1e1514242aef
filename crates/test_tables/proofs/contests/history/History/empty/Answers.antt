use Rattle.std.proofs.Common.{◌≡◌, ◌∙◌, sym, subst, List, []}
use Rattle.std.specs.Arc.{arc_value}
use Rattle.pj_change.specs.declared.change.Record.{Record}
use Rattle.pj_deps.specs.Dependents.{AreDepsOf}
use Rattle.pj_contest.specs.Contests.{IsContestsOf}
use Rattle.test_tables.specs.Histories.{AreTables}
use Rattle.test_tables.proofs.contests.history.History.empty.Goals as goal

pub of-requires : goal.of-requires
of-requires c =
    let none : arc_value c.in_ok-held.held ≡ [] = c.in_ok-held.ensures.ok ∙ c.empty.ensures in
    subst (λ (l : List Record). AreTables l (arc_value c.in_ok-needs.needs) (arc_value c.in_ok-contests.contests)) (sym none) (record {
      needs_are = subst (AreDepsOf []) (sym c.in_ok-needs.ensures.ok) c.empty-2.ensures.set;
      contests_are = subst (IsContestsOf []) (sym c.in_ok-contests.ensures.ok) c.empty-3.ensures;
    })
