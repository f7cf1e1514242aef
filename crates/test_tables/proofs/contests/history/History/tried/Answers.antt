use Rattle.std.proofs.Common.{◌≡◌, refl, sym, ◌∙◌, subst, List, false}
use Rattle.std.specs.Arc.{arc_value}
use Rattle.pj_change.specs.declared.change.Record.{Record}
use Rattle.pj_change.specs.Lawful.{is_held}
use Rattle.test_tables.proofs.ChangedLists.{absent, free}
use Rattle.test_tables.proofs.contests.history.History.tried.Goals as goal

pub contests_with-requires-clause-fresh : goal.contests_with-requires-clause-fresh
contests_with-requires-clause-fresh g c =
    subst (λ (l : List Record). is_held l c.args.change.now.name ≡ false) c.held.ensures
    (absent (λ r. arc_value r.now) c.get.result c.held.result.now c.args.change.now.name c.get.ensures (sym c.is_some.ensures ∙ c.if-is_some.false))

pub contests_with-requires-clause-free : goal.contests_with-requires-clause-free
contests_with-requires-clause-free g c = free c.args.self.now c.args.change.now (c.if-not-is_unneeded.ensures refl c.args.self.now c.needs.ensures) (c.if-not-is_apart.ensures refl)

pub returns-clause-fresh : goal.returns-clause-fresh
returns-clause-fresh g c =
    subst (λ (l : List Record). is_held l c.args.change.now.name ≡ false) c.held.ensures
    (absent (λ r. arc_value r.now) c.get.result c.held.result.now c.args.change.now.name c.get.ensures (sym c.is_some.ensures ∙ c.if-is_some.false))
