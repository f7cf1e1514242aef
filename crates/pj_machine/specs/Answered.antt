-- One call of a pass that was answered.
use Rattle.std.specs.Prelude.{◌≡◌, ◌+◌}
use mathlib.Core.List.{IsPrefix}
use Rattle.pj_machine.specs.declared.command.Command.{Command}
use Rattle.pj_machine.specs.declared.limits.Limits.{Limits}
use Rattle.pj_machine.specs.declared.reply.Numbered.{Numbered}
use Rattle.pj_machine.specs.Call.{PassView, GainsAtMostLast, IsAtEnd, IsResult}

-- it was one call of the pass, which saw the journal grow by at most one entry of its own, the last; the reply is the one at the end
pub record Answered (limits : Limits) (old new : PassView) (command : Command) (numbered : Numbered) : Type 0 where
  pub number : new.number ≡ old.number
  pub calls : new.calls ≡ old.calls + 1
  pub journal : IsPrefix old.journal new.journal
  pub own : GainsAtMostLast old new
  pub place : IsAtEnd new.journal numbered
  pub result : IsResult limits new.journal new.number new.calls command numbered
