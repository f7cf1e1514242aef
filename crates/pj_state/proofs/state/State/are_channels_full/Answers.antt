use Rattle.std.proofs.Common.{◌∙◌, ap, length}
use Rattle.pj_state.proofs.KeptFacts.{state_is, le_iff}
use Rattle.pj_state.proofs.Counts.{channel_count}
use Rattle.pj_state.proofs.state.State.are_channels_full.Goals as goal

pub returns : goal.returns
returns c = λ s r.
    let same = state_is _ _ _ _ _ c.self.invariant c.args.self.now c.self.view_is s r in
    le_iff _ _ _ _ (c.from.ensures ∙ ap (λ k. k.limits.channels) c.self.view_is)
    (c.len.ensures.len ∙ channel_count _ _ _ _ _ c.self.invariant c.len.ensures.ordered ∙ ap (λ t. length t.channels) same)
