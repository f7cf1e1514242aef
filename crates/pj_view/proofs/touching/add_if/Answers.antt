use Rattle.std.proofs.Common.{◌≡◌}
use Rattle.std.specs.Prelude.{IsTrue}
use Rattle.pj_view.proofs.Additions.{none_added, fewer_added, one_added}
use Rattle.pj_view.proofs.touching.add_if.Goals as goal

pub returns-then-not-wanted : goal.returns-then-not-wanted
returns-then-not-wanted c = none_added c.args.points.now.items (λ p. (c.args.at ≡ p) × IsTrue c.args.wanted) (λ p k. cc)

pub returns : goal.returns
returns c = fewer_added c.args.points.now.items _ (λ p. c.args.at ≡ p) (λ p. (c.args.at ≡ p) × IsTrue c.args.wanted) (λ p k. k.0) (one_added _ _ c.args.at c.in_ok-push.ensures.items)
