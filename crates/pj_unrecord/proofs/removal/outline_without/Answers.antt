use Rattle.std.proofs.Common.{◌≡◌, ◌∙◌, sym, subst, ◌++◌, List}
use Rattle.std.specs.Arc.{arc_value}
use Rattle.pj_change.specs.declared.change.Record.{Record}
use Rattle.pj_outline.specs.OutlineOf.{IsOutlineOf}
use Rattle.pj_unrecord.proofs.Leaving.{leaves}
use Rattle.pj_unrecord.proofs.removal.outline_without.Goals as goal

pub without_change-requires : goal.without_change-requires
without_change-requires g c =
    let S = c.args.tables.now in
    let r = c.args.change.now in
    let l = leaves S r.name r c.list-before.ensures.lawful c.requires.free c.requires.there in
    let was : IsOutlineOf S c.in_ok-before.before = subst (IsOutlineOf S) (sym c.in_ok-before.ensures) c.outline.ensures in
    record {
      before = l.before;
      after = l.after;
      lawful = l.lawful;
      left = l.still;
      is = subst (λ (o : List Record). IsOutlineOf o c.in_ok-before.before) l.is was;
    }

pub returns-clause-set : goal.returns-clause-set
returns-clause-set g c =
    let S = c.args.tables.now in
    let r = c.args.change.now in
    let l = leaves S r.name r c.list-before.ensures.lawful c.requires.free c.requires.there in
    let was : IsOutlineOf S c.in_ok-before.before = subst (IsOutlineOf S) (sym c.in_ok-before.ensures) c.outline.ensures in
    let rest : c.args.list.now ≡ l.before ++ l.after = c.requires.list ∙ l.left in
    subst (λ (o : List Record). IsOutlineOf o (arc_value c.in_ok-shared.shared)) (sym rest)
    (subst (IsOutlineOf (l.before ++ l.after)) (sym c.in_ok-shared.ensures.ok)
    (c.in_ok-outline.ensures.set l.before l.after l.lawful l.still (subst (λ (o : List Record). IsOutlineOf o c.in_ok-before.before) l.is was)))
