use Rattle.std.proofs.Common.{◌≡◌, ◌∙◌, sym, subst, ◌++◌, List}
use Rattle.std.specs.Arc.{arc_value}
use Rattle.pj_change.specs.declared.change.Record.{Record}
use Rattle.pj_deps.specs.Dependents.{AreDepsOf}
use Rattle.pj_unrecord.proofs.Leaving.{leaves}
use Rattle.pj_unrecord.proofs.removal.deps_without.Goals as goal

pub returns-clause-set : goal.returns-clause-set
returns-clause-set g c =
    let S = c.args.tables.now in
    let r = c.args.change.now in
    let l = leaves S r.name r c.list-before.ensures.lawful c.requires.free c.requires.there in
    let was : AreDepsOf S c.in_ok-before.before = subst (AreDepsOf S) (sym c.in_ok-before.ensures) c.deps.ensures in
    let rest : c.args.list.now ≡ l.before ++ l.after = c.requires.list ∙ l.left in
    subst (λ (o : List Record). AreDepsOf o (arc_value c.in_ok-shared.shared)) (sym rest)
    (subst (AreDepsOf (l.before ++ l.after)) (sym c.in_ok-shared.ensures.ok)
    (c.in_ok-deps.ensures.set l.before l.after l.others (subst (λ (o : List Record). AreDepsOf o c.in_ok-before.before) l.is was)))
