use Rattle.std.proofs.Common.{◌≡◌, ◌∙◌, subst}
use Rattle.std.specs.Prelude.{Contains}
use Rattle.std.proofs.lemmas.Result.{IfOk-weaker}
use Rattle.pj_view.specs.Added.{HasAdded, IsDeadAt}
use Rattle.pj_view.proofs.Additions.{fewer_added, goes_added}
use Rattle.pj_view.proofs.touching.with_if_dead.Goals as goal

pub returns-then-has : goal.returns-then-has
returns-then-has c = record { kept = λ p m. m; added = λ p k. subst (Contains c.args.points) k.0 (c.has.ensures.0 c.if-has.true) }

pub returns-then-not-is_dead : goal.returns-then-not-is_dead
returns-then-not-is_dead c = record { kept = λ p m. m; added = λ p k. absurd (let dead = c.is_dead.ensures ∙ k.1 in cc) }

pub returns : goal.returns
returns c =
    let at = c.args.at in
    let old = c.args.points in
    let P = IsDeadAt c.args.view.now at in
    IfOk-weaker c.with.result _ (λ more. HasAdded old more P) (λ more goes. fewer_added old more (λ p. at ≡ p) P (λ p k. k.0) (goes_added old more (λ p. at ≡ p) goes)) c.with.ensures
