-- A request that was answered with memory was accepted or declined.
use Rattle.std.proofs.Common.{◌≡◌, ◌≢◌, ℕ, Bool, true, false, List, inr, sym}
use Rattle.pj_machine.specs.declared.command.Command.{Command}
use Rattle.pj_machine.specs.declared.limits.Limits.{Limits}
use Rattle.pj_machine.specs.declared.reply.Numbered.{Numbered}
use Rattle.pj_machine.specs.declared.reply.Numbered.TheVariants.{NoMemory}
use Rattle.pj_machine.specs.Answered.{Answered}
use Rattle.pj_machine.specs.Call.{PassView}
use Rattle.pj_machine.specs.Told.{is_entered}
use Rattle.pj_wire.specs.Requests.{spelling, IsCall}
use Rattle.pj_stored.specs.Answered.{IsAnswered}

-- by whether the reply tells of an entry
pub answers_next : (limits : Limits) (old new : PassView) (string : List ℕ) (x : Command) (r : Numbered) (b : Bool) →
    IsCall x → string ≡ spelling x → Answered limits old new x r → r ≢ NoMemory → b ≡ is_entered r → IsAnswered limits old new string b
answers_next limits old new string x r true call is answered some says =
    record { command = x; call = call; spelled = is; reply = r; answered = answered; says = sym says }
answers_next limits old new string x r false call is answered some says =
    inr (record { command = x; call = call; spelled = is; reply = r; answered = answered; says = (sym says, some) })
