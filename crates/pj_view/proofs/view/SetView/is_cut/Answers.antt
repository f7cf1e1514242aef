use Rattle.std.proofs.Common.{◌≡◌, ◌∙◌, sym, subst, ℕ, ◌≤◌, true, arith}
use Rattle.std.specs.Prelude.{nat_lt}
use Rattle.std.proofs.lemmas.Bool.Decides.{nat_tests}
use Rattle.pj_change.specs.Vertices.{is_cut}
use Rattle.pj_change.proofs.CountedCuts.{cut_where_counted}
use Rattle.pj_view.proofs.StatusKept.{both_ways}
use Rattle.pj_view.proofs.view.SetView.is_cut.Goals as goal

pub returns : goal.returns
returns c =
    let S = c.args.self.now in
    let at = c.args.at in
    let counted = c.count.ensures ∙ c.cuts.ensures.counts at in
    let w = cut_where_counted S at in
    both_ways _ (is_cut S at) (λ e. w.1 (subst (λ n. 1 ≤ n) counted (above e))) (λ e. below (subst (λ n. 1 ≤ n) (sym counted) (w.0 e)))
  where
    above : {n : ℕ} → nat_lt 0 n ≡ true → 1 ≤ n
    above h = grind (arith, nat_tests)

    below : {n : ℕ} → 1 ≤ n → nat_lt 0 n ≡ true
    below h = grind (arith, nat_tests)
