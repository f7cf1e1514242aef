use Rattle.std.proofs.Common.{subst, sym}
use Rattle.std.specs.Prelude.{Contains}
use Rattle.pj_contest.proofs.distinct.distinct.Goals as goal

pub returns-clause-same : goal.returns-clause-same
returns-clause-same g c = λ x. (
  λ m. (c.in_ok-set.ensures x).0 (subst (λ ks. Contains ks x) c.in_ok-keys.ensures.same m),
  λ m. subst (λ ks. Contains ks x) (sym c.in_ok-keys.ensures.same) ((c.in_ok-set.ensures x).1 m),
)
