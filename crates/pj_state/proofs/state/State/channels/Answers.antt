use Rattle.std.proofs.Common.{◌≡◌, List, ap}
use Rattle.pj_machine.specs.declared.command.Command.TheVariants as command
use Rattle.pj_machine.specs.declared.listings.ChannelCount.{ChannelCount}
use Rattle.pj_machine.specs.Answer.{AreCounts}
use Rattle.pj_machine.specs.Listings.{channels_text}
use Rattle.pj_machine.specs.Outcome.{gives}
use Rattle.pj_machine.specs.Replay.{IsReplay}
use Rattle.pj_state.specs.Kept.{After}
use Rattle.pj_state.proofs.Replying.{gives_at}
use Rattle.pj_state.proofs.state.State.channels.Goals as goal

pub returns : goal.returns
returns c =
    gives_at c.args.self.now c.len.result (λ s. IsReplay c.args.self.now.journal s) (record { at = c.len.ensures.len; legal = c.len.ensures.legal; state = λ s r. r }) command.Channels
    c.channels_bytes.result (λ b. After c.args.self.now.journal (λ s. (counts : List ChannelCount) × AreCounts s counts × (b ≡ channels_text counts))) c.channels_bytes.ensures
    (λ s r b q. let h = q s r in (h.0, h.1, ap gives h.2)) c.given.result c.given.ensures
