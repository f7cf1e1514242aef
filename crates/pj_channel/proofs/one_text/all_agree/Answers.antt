use Rattle.std.proofs.Common.{◌≡◌, ◌∙◌, sym, ap, subst, [], ◌∷◌, true, false, Bool}
use Rattle.std.specs.Prelude.{◌↔◌, ◌++◌}
use Rattle.std.specs.Arc.{arc_value}
use Rattle.pj_change.specs.declared.change.Record.{Record}
use Rattle.pj_change.specs.OneText.{all_agree}
use Rattle.pj_change.specs.Sets.{HaveOneText}
use Rattle.pj_change.proofs.AgreeingTexts.{lists_agree}
use Rattle.pj_apply.specs.Walks.{after_name}
use Rattle.pj_channel.proofs.Texts.{HaveAgreed, agreed_none, agreed_more, agreed_fails, agreed_all}
use Rattle.pj_channel.proofs.one_text.all_agree.Goals as goal

pub loop-change-init : goal.loop-change-init
loop-change-init c = subst (HaveAgreed c.args.tables.now c.args.other.now) (sym c.list-changes.ensures.same) (agreed_none c.args.tables.now c.args.other.now)

failed : (c : goal.Then-not-agrees) → all_agree c.args.tables.now c.args.other.now ≡ false
failed c =
    let list = c.args.tables.now in
    let other = c.args.other.now in
    let r = arc_value c.in-Some.change.now in
    let rest = after_name c.list-changes.result.now r.name in
    let apart : all_agree list (r ∷ []) ≡ false =
    ap (λ (q : Record). all_agree list (q ∷ [])) (sym c.deref.ensures) ∙ sym c.agrees.ensures ∙ c.if-not-agrees.true in
    agreed_fails list other r rest (subst (HaveAgreed list other) c.in-Some.ensures c.loop-change.invariant) apart

pub returns-then-not-agrees-clause-pairs : goal.returns-then-not-agrees-clause-pairs
returns-then-not-agrees-clause-pairs c = sym (failed c)

pub returns-then-not-agrees-clause-one : goal.returns-then-not-agrees-clause-one
returns-then-not-agrees-clause-one c =
    let list = c.args.tables.now in
    let other = c.args.other.now in
    subst (λ (b : Bool). (b ≡ true) ↔ HaveOneText (list ++ other)) (failed c) (lists_agree list other c.list-list.ensures.lawful c.list-changes.ensures.lawful)

pub loop-change-preserved : goal.loop-change-preserved
loop-change-preserved c =
    let list = c.args.tables.now in
    let other = c.args.other.now in
    let r = arc_value c.in-Some.change.now in
    let changes = c.list-changes.result.now in
    let rest = after_name changes r.name in
    let agree : all_agree list (r ∷ []) ≡ true =
    ap (λ (q : Record). all_agree list (q ∷ [])) (sym c.deref.ensures) ∙ sym c.agrees.ensures ∙ c.if-not-agrees.false in
    subst (λ (q : Record). HaveAgreed list other (after_name changes q.name)) (sym c.deref-in-Some.ensures)
    (agreed_more list other r rest (subst (HaveAgreed list other) c.in-Some.ensures c.loop-change.invariant) agree)

agreed : (c : goal.In_default) → all_agree c.args.tables.now c.args.other.now ≡ true
agreed c = agreed_all c.args.tables.now c.args.other.now (subst (HaveAgreed c.args.tables.now c.args.other.now) c.in_default.ensures c.loop-change.invariant)

pub returns-clause-pairs : goal.returns-clause-pairs
returns-clause-pairs c = sym (agreed c)

pub returns-clause-one : goal.returns-clause-one
returns-clause-one c =
    let list = c.args.tables.now in
    let other = c.args.other.now in
    subst (λ (b : Bool). (b ≡ true) ↔ HaveOneText (list ++ other)) (agreed c) (lists_agree list other c.list-list.ensures.lawful c.list-changes.ensures.lawful)
