use Rattle.std.proofs.Common.{◌≡◌, ℕ, ap}
use Rattle.std.specs.Prelude.{Err}
use Rattle.std.proofs.lemmas.Result.{err_from_is_err_and}
use Rattle.pj_change.specs.Inverse.{IsFirstWithoutInverse}
use Rattle.pj_inverse.specs.declared.refusal.InverseRefusal.TheVariants as refusal
use Rattle.pj_inverse.proofs.FirstRefused.{on_ok}
use Rattle.pj_inverse.proofs.inverting.inverse.Goals as goal

pub returns-in_err-needs-clause-hunk : goal.returns-in_err-needs-clause-hunk
returns-in_err-needs-clause-hunk c = λ k e.
    let p = err_from_is_err_and c.from_residual.result c.from_residual.ensures.1 in
    let told = p.1 in
    let given = p.2 in
    let same : c.in_err-needs.field-0.0 ≡ refusal.Hunk k = cc in
    c.in_err-needs.ensures.hunk k (ap Err same)

pub returns-clause-none : goal.returns-clause-none
returns-clause-none c = on_ok c.ok_or.result ((k : ℕ) → IsFirstWithoutInverse c.args.record.now k → ⊥) c.in_ok-needs.ensures.none
