use Rattle.std.proofs.Common.{◌≡◌, ◌∙◌, sym, subst, ◌++◌, List}
use Rattle.std.specs.Arc.{arc_value}
use Rattle.pj_change.specs.declared.change.Record.{Record}
use Rattle.pj_apply.proofs.Distinct.{record_is}
use Rattle.pj_states.specs.OfSets.{AreVersionsOf}
use Rattle.pj_states.proofs.StepsOfChanges.{says_no_other}
use Rattle.pj_unrecord.proofs.Leaving.{leaves}
use Rattle.pj_unrecord.proofs.removal.versions_without.Goals as goal

pub returns-clause-set : goal.returns-clause-set
returns-clause-set g c =
    let S = c.args.tables.now in
    let r = c.args.change.now in
    let l = leaves S r.name r c.list-before.ensures.lawful c.requires.free c.requires.there in
    let was : AreVersionsOf S c.in_ok-before.before = subst (AreVersionsOf S) (sym c.in_ok-before.ensures) c.versions.ensures in
    let rest : c.args.list.now ≡ l.before ++ l.after = c.requires.list ∙ l.left in
    subst (λ (o : List Record). AreVersionsOf o (arc_value c.in_ok-shared.shared)) (sym rest)
    (subst (AreVersionsOf (l.before ++ l.after)) (sym c.in_ok-shared.ensures.ok)
    (c.in_ok-versions.ensures.set l.before l.after l.others (subst (λ (o : List Record). AreVersionsOf o c.in_ok-before.before) l.is was)))

pub returns-clause-cost : goal.returns-clause-cost
returns-clause-cost g c =
    let S = c.args.tables.now in
    let r = c.args.change.now in
    let is = record_is S r.name r c.requires.there in
    let was : AreVersionsOf S c.in_ok-before.before = subst (AreVersionsOf S) (sym c.in_ok-before.ensures) c.versions.ensures in
    c.in_ok-versions.ensures.cost (says_no_other S c.in_ok-before.before c.list-before.ensures.lawful was r is.member)

pub returns-in_err-versions-clause-cost : goal.returns-in_err-versions-clause-cost
returns-in_err-versions-clause-cost g c =
    let S = c.args.tables.now in
    let r = c.args.change.now in
    let is = record_is S r.name r c.requires.there in
    let was : AreVersionsOf S c.in_ok-before.before = subst (AreVersionsOf S) (sym c.in_ok-before.ensures) c.versions.ensures in
    c.in_err-versions.ensures.cost (says_no_other S c.in_ok-before.before c.list-before.ensures.lawful was r is.member)

pub returns-in_err-shared-clause-cost : goal.returns-in_err-shared-clause-cost
returns-in_err-shared-clause-cost g c =
    let S = c.args.tables.now in
    let r = c.args.change.now in
    let is = record_is S r.name r c.requires.there in
    let was : AreVersionsOf S c.in_ok-before.before = subst (AreVersionsOf S) (sym c.in_ok-before.ensures) c.versions.ensures in
    c.in_ok-versions.ensures.cost (says_no_other S c.in_ok-before.before c.list-before.ensures.lawful was r is.member)
