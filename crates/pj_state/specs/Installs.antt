-- Writes that give a channel a list.
use Rattle.std.specs.Prelude.{◌≡◌, ◌≤◌, List, length, Some, None, if◌then◌else◌}
use Rattle.std.specs.Str.{bytes_eq}
use Rattle.pj_change.specs.declared.change.Record.{Record}
use Rattle.pj_machine.specs.declared.channel_name.ChannelName.{ChannelName}
use Rattle.pj_machine.specs.declared.command.Write.{Write}
use Rattle.pj_machine.specs.declared.limits.Limits.{Limits}
use Rattle.pj_machine.specs.declared.reply.Reply.TheVariants.{Done}
use Rattle.pj_machine.specs.Answer.{AnswersIn, Writes}
use Rattle.pj_machine.specs.Legal.{command_of}
use Rattle.pj_machine.specs.Outcome.{Outcome}
use Rattle.pj_machine.specs.State.{State, list_of}
use Rattle.pj_machine.specs.Step.{Steps}
use Rattle.pj_state.specs.Kept.{Kept}
use Rattle.pj_state.specs.LastEntry.{changes}

-- from state s the write gives the channel of this name this list, and changes nothing else
pub record Sets (s : State) (write : Write) (name : ChannelName) (list : List Record) : Type 0 where
  pub to : State
  pub steps : Steps s write to
  pub store : to.store ≡ s.store
  pub lists : (other : ChannelName) → list_of to other ≡ (if bytes_eq name other then Some list else list_of s other)
  pub changed : (other : ChannelName) → changes other write ≡ bytes_eq name other

-- The write gives the channel this list, and its command has no refusal but `full journal`.
pub record Installs (k : Kept) (s : State) (write : Write) (name : ChannelName) (list : List Record) : Type 0 where
  pub sets : Sets s write name list
  pub answers : (outcome : Outcome) → Writes k.limits (length k.journal) Done write outcome → AnswersIn k.limits s k.journal (command_of write) outcome

-- no channel has the name, and there may be one more
abbrev pub MayMake : Limits → State → ChannelName → Type 0
MayMake limits s name = (list_of s name ≡ None) × (limits.channels ≤ length s.channels → ⊥)
