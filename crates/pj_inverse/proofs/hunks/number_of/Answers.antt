use Rattle.std.proofs.Common.{◌≡◌, false, true, arith, refl, sym, ◌∙◌, ap, subst, inl, inr}
use Rattle.std.specs.Prelude.{slice_get, Some}
use Rattle.std.proofs.lemmas.Bool.{cases_order}
use Rattle.std.proofs.lemmas.Option.{slice_get_read, get_or_from_slice_get}
use Rattle.pj_name.specs.Name.{same_name}
use Rattle.pj_change.proofs.EqualNames.{same_name_is, is_same_name}
use Rattle.pj_inverse.proofs.hunks.number_of.Goals as goal

pub returns-then-eq : goal.returns-then-eq
returns-then-eq c =
    let same : c.need-item.result ≡ c.args.name = same_name_is c.need-item.result c.args.name (sym c.eq.ensures ∙ c.if-eq.true) in
    let there = slice_get_read c.args.needs.now _ c.loop-need.need-index c.need-item.result refl c.loop-need-test.true c.need-item.is in
    (c.loop-need.need-index, omega (arith, c.loop-need.invariant.number), there ∙ ap Some same)

pub loop-need-preserved : goal.loop-need-preserved
loop-need-preserved c = record {
  number = omega (arith, c.loop-need.invariant.number);
  before = λ k low e. elim (cases_order k c.loop-need.need-index) [
    | inl here ↦ not_here (subst (λ i. slice_get c.args.needs.now i ≡ Some c.args.name) here e)
    | inr (inl below) ↦ c.loop-need.invariant.before k below e
    | inr (inr above) ↦ absurd (omega (arith, low, above))
  ];
}
  where
    not_here : slice_get c.args.needs.now c.loop-need.need-index ≡ Some c.args.name → ⊥
    not_here e =
        let same : c.need-item.result ≡ c.args.name = c.need-item.is ∙ get_or_from_slice_get c.args.needs.now c.loop-need.need-index c.args.name c.need-item.result e in
        let yes : same_name c.need-item.result c.args.name ≡ true = is_same_name c.need-item.result c.args.name same in
        let no : same_name c.need-item.result c.args.name ≡ false = sym c.eq.ensures ∙ c.if-eq.false in
        cc

pub returns : goal.returns
returns c =
    let there = c.requires.there in
    absurd (c.loop-need.invariant.before there.0 (omega (arith, there.1, c.loop-need-test.false)) (slice_get_read c.args.needs.now _ there.0 c.args.name refl there.1 (sym there.2)))
