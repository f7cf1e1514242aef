use Rattle.std.proofs.Common.{sym, subst}
use Rattle.pj_machine.specs.Answer.{AreCounts}
use Rattle.pj_state.proofs.Counting.{are_counts}
use Rattle.pj_state.proofs.KeptFacts.{standing_is}
use Rattle.pj_state.proofs.state.State.counts.Goals as goal

pub returns : goal.returns
returns c = λ s r.
    subst (λ list. AreCounts s list) (sym c.in_ok-counts.ensures.counts)
    (are_counts s c.args.self.now.journal c.self.inside.channels (standing_is _ _ _ _ _ c.self.invariant c.args.self.now c.self.view_is s r) c.counts_of.ensures.ordered)
