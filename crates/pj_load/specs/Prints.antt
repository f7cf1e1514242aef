-- What the prints of the closing give.
use Rattle.std.specs.Prelude.{◌≡◌, List, [], ◌∷◌, Some, None}
use Rattle.pj_machine.specs.declared.channel_name.ChannelName.{ChannelName}
use Rattle.pj_machine.specs.declared.command.Command.TheVariants.{Print}
use Rattle.pj_machine.specs.declared.journal.Entry.{Entry}
use Rattle.pj_machine.specs.declared.limits.Limits.{Limits}
use Rattle.pj_machine.specs.declared.reply.Reply.{Reply}
use Rattle.pj_machine.specs.Answer.{IsAnswer}
use Rattle.pj_gen.specs.declared.telling.Found.{Found}
use Rattle.pj_load.specs.declared.seeing.Printed.{Printed}
use Rattle.pj_load.specs.Seen.{found}

-- at the end of the journal this is found in the reply to the print of a channel
pub record IsFoundAt (limits : Limits) (journal : List Entry) (channel : ChannelName) (it : Found) : Type 0 where
  pub reply : Reply
  pub answer : IsAnswer limits journal (Print channel) reply None
  pub found_is : found reply ≡ Some it

-- these are found for the channels, one for each
abbrev pub AreFoundAt : Limits → List Entry → List ChannelName → List Printed → Type 0
AreFoundAt limits journal [] [] = Unit {0}
AreFoundAt limits journal (c ∷ cs) (p ∷ ps) = IsFoundAt limits journal c p.found × AreFoundAt limits journal cs ps
AreFoundAt limits journal [] (p ∷ ps) = ⊥
AreFoundAt limits journal (c ∷ cs) [] = ⊥
