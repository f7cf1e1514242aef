-- When a channel that was worked out at an earlier place may be installed.
use Rattle.std.specs.Prelude.{◌≡◌, ℕ, List}
use Rattle.pj_change.specs.declared.change.Record.{Record}
use Rattle.pj_machine.specs.declared.channel_name.ChannelName.{ChannelName}
use Rattle.pj_machine.specs.declared.command.Write.{Write}
use Rattle.pj_state.specs.Installs.{Installs}
use Rattle.pj_state.specs.Kept.{Kept, After}
use Rattle.pj_state.specs.LastEntry.{last_of}

-- where the last entry of the channel has this number, the write gives the channel this list, and nothing refuses it but `full journal`
abbrev pub MayInstall : Kept → Write → ChannelName → ℕ → List Record → Type 0
MayInstall k write name last list = last_of name k.journal ≡ last → After k.journal (λ s. Installs k s write name list)
