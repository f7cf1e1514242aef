use Rattle.std.proofs.Common.{◌≡◌, ◌∙◌, refl, sym, ap, subst, true, false, [], ◌∷◌, ◌++◌, List}
use Rattle.std.specs.Arc.{arc_value}
use Rattle.pj_change.specs.declared.change.Record.{Record}
use Rattle.pj_change.specs.Lawful.{is_held}
use Rattle.pj_apply.specs.Walks.{after_name}
use Rattle.pj_channel.proofs.Pulls.{HasPulled, pulled_none, pulled_in, pulled_out, pulled_follows, pulled_within, pulled_all}
use Rattle.pj_channel.proofs.union.union.Goals as goal

pub loop-change-init : goal.loop-change-init
loop-change-init g c =
    let list = c.args.tables.now in
    let other = c.args.other.now in
    let steps = c.args.steps.now in
    subst (λ (l : List Record). HasPulled list other l c.in_ok-both.both steps steps) (sym c.list-changes.ensures.same)
    (pulled_none list other c.in_ok-both.both steps c.in_ok-both.ensures)

pub applied-requires : goal.applied-requires
applied-requires g c =
    let list = c.args.tables.now in
    let other = c.args.other.now in
    let both = c.loop-change.both in
    let r = arc_value c.in-Some.change.now in
    let rest = after_name c.list-changes.result.now r.name in
    let new : is_held list r.name ≡ false =
    ap (λ (l : List Record). is_held l r.name) (sym c.list-list.ensures.same) ∙ ap (λ (q : Record). is_held c.list-list.result.now q.name) (sym c.deref-in-Some.ensures)
    ∙ sym c.is_held.ensures ∙ c.if-not-is_held.true in
    pulled_follows list other r rest both c.args.steps.now c.loop-change.steps
    (subst (λ (l : List Record). HasPulled list other l both c.args.steps.now c.loop-change.steps) c.in-Some.ensures c.loop-change.invariant)
    c.requires c.list-list.ensures.lawful c.list-changes.ensures.lawful new

pub returns-in_err-both-2-clause-cost : goal.returns-in_err-both-2-clause-cost
returns-in_err-both-2-clause-cost g c =
    let list = c.args.tables.now in
    let other = c.args.other.now in
    let both = c.loop-change.both in
    let r = arc_value c.in-Some.change.now in
    let rest = after_name c.list-changes.result.now r.name in
    let new : is_held list r.name ≡ false =
    ap (λ (l : List Record). is_held l r.name) (sym c.list-list.ensures.same) ∙ ap (λ (q : Record). is_held c.list-list.result.now q.name) (sym c.deref-in-Some.ensures)
    ∙ sym c.is_held.ensures ∙ c.if-not-is_held.true in
    pulled_within list other rest (both ++ r ∷ []) c.args.steps.now c.applied.new.steps
    (pulled_in list other r rest both c.args.steps.now c.loop-change.steps
    (subst (λ (l : List Record). HasPulled list other l both c.args.steps.now c.loop-change.steps) c.in-Some.ensures c.loop-change.invariant)
    new (both ++ r ∷ []) c.applied.new.steps refl c.applied.ensures.cost)

pub loop-change-preserved-then-not-is_held : goal.loop-change-preserved-then-not-is_held
loop-change-preserved-then-not-is_held g c =
    let list = c.args.tables.now in
    let other = c.args.other.now in
    let both = c.loop-change.both in
    let r = arc_value c.in-Some.change.now in
    let changes = c.list-changes.result.now in
    let rest = after_name changes r.name in
    let new : is_held list r.name ≡ false =
    ap (λ (l : List Record). is_held l r.name) (sym c.list-list.ensures.same) ∙ ap (λ (q : Record). is_held c.list-list.result.now q.name) (sym c.deref-in-Some.ensures)
    ∙ sym c.is_held.ensures ∙ c.if-not-is_held.true in
    subst (λ (q : Record). HasPulled list other (after_name changes q.name) c.in_ok-both-2.both c.args.steps.now c.applied.new.steps) (sym c.deref.ensures)
    (pulled_in list other r rest both c.args.steps.now c.loop-change.steps
    (subst (λ (l : List Record). HasPulled list other l both c.args.steps.now c.loop-change.steps) c.in-Some.ensures c.loop-change.invariant)
    new c.in_ok-both-2.both c.applied.new.steps c.in_ok-both-2.ensures.list c.applied.ensures.cost)

pub loop-change-preserved : goal.loop-change-preserved
loop-change-preserved g c =
    let list = c.args.tables.now in
    let other = c.args.other.now in
    let both = c.loop-change.both in
    let r = arc_value c.in-Some.change.now in
    let changes = c.list-changes.result.now in
    let rest = after_name changes r.name in
    let there : is_held list r.name ≡ true =
    ap (λ (l : List Record). is_held l r.name) (sym c.list-list.ensures.same) ∙ ap (λ (q : Record). is_held c.list-list.result.now q.name) (sym c.deref-in-Some.ensures)
    ∙ sym c.is_held.ensures ∙ c.if-not-is_held.false in
    subst (λ (q : Record). HasPulled list other (after_name changes q.name) both c.args.steps.now c.loop-change.steps) (sym c.deref.ensures)
    (pulled_out list other r rest both c.args.steps.now c.loop-change.steps
    (subst (λ (l : List Record). HasPulled list other l both c.args.steps.now c.loop-change.steps) c.in-Some.ensures c.loop-change.invariant) there)

pub returns-clause-same : goal.returns-clause-same
returns-clause-same g c =
    let list = c.args.tables.now in
    let other = c.args.other.now in
    pulled_all list other c.loop-change.both c.args.steps.now c.loop-change.steps
    (subst (λ (l : List Record). HasPulled list other l c.loop-change.both c.args.steps.now c.loop-change.steps) c.in_default.ensures c.loop-change.invariant)

pub returns-clause-cost : goal.returns-clause-cost
returns-clause-cost g c = pulled_within _ _ _ _ _ _ c.loop-change.invariant
