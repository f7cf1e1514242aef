use Rattle.std.proofs.Common.{◌≡◌, None, Some, subst}
use Rattle.std.specs.Arc.{arc_value}
use Rattle.std.specs.Prelude.{MatchOption}
use Rattle.pj_state.proofs.KeptFacts.{record_is}
use Rattle.pj_state.proofs.state.State.find.Goals as goal

pub returns : goal.returns
returns c = λ s r.
    subst (λ o. MatchOption c.get.result (o ≡ None) (λ x. o ≡ Some (arc_value x.now)))
    (record_is _ _ _ _ _ c.self.invariant c.args.self.now c.self.view_is s r c.args.name) c.get.ensures
