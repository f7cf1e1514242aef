use Rattle.std.proofs.Common.{◌≡◌, ◌∙◌, sym, ap, true, false}
use Rattle.std.proofs.lemmas.Result.{IfOk-weaker}
use Rattle.pj_view.specs.Added.{HasEntries, IsCoveredAt}
use Rattle.pj_view.specs.Stretches.{is_in, is_in_some}
use Rattle.pj_view.proofs.Additions.{none_added, fewer_added}
use Rattle.pj_view.proofs.touching.add_hunk_at.Goals as goal

pub returns-in-Some-clause-points : goal.returns-in-Some-clause-points
returns-in-Some-clause-points c =
    let S = c.args.view.now in
    let s = c.in-Some.stretch in
    let old = c.args.points.now.items in
    let new = c.add_once.new.points.items in
    IfOk-weaker c.add_once.result (λ done. HasEntries S old new (λ p. is_in s p ≡ true)) (λ done. HasEntries S old new (IsCoveredAt S c.args.at))
    (λ done a. fewer_added old new (λ p. is_in s p ≡ true) (IsCoveredAt S c.args.at) (λ p b. sym (ap (λ found. is_in_some found p) c.in-Some.is) ∙ c.covered_at.ensures p b) a) c.add_once.ensures.points

pub returns-in-None-clause-points : goal.returns-in-None-clause-points
returns-in-None-clause-points c =
    none_added c.args.points.now.items (IsCoveredAt c.args.view.now c.args.at)
    (λ p b. (let e : false ≡ true = sym (ap (λ found. is_in_some found p) c.in-None.is) ∙ c.covered_at.ensures p b in cc))
