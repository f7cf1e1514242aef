-- How one command is answered.
use Rattle.std.specs.Prelude.{◌≡◌, ℕ, ◌≤◌, Result, Ok, Err, IsErrOf}
use Rattle.pj_io.specs.Causes.{Rose}
use Rattle.pj_machine.specs.declared.command.Command.{Command}
use Rattle.pj_machine.specs.declared.limits.Limits.{Limits}
use Rattle.pj_machine.specs.declared.reply.Numbered.{Numbered}
use Rattle.pj_machine.specs.Answered.{Answered}
use Rattle.pj_machine.specs.Call.{PassView}
use Rattle.pj_wire.specs.Replies.{IsReply}
use Rattle.pj_session.specs.declared.step.StepRefusal.{StepRefusal}
use Rattle.pj_session.specs.declared.step.StepRefusal.TheVariants.{Memory, Store}

-- it is answered, and the reply may be given; or nothing is done; or it is answered, and nothing more may be asked
abbrev pub Stepped : {S : Type 0} → (S → Type 0) → (S → Command → Numbered → S → Type 0) → Limits → S → S → PassView → PassView → Command → Result Numbered StepRefusal → Type 0
Stepped Ready Does limits s t old new x (Ok r) = Answered limits old new x r × Does s x r t × Ready t
Stepped Ready Does limits s t old new x (Err Memory) = (t ≡ s) × (new ≡ old)
Stepped Ready Does limits s t old new x (Err Store) = (r : Numbered) × Answered limits old new x r × Does s x r t × IsReply r

-- the count does not fall, and `Store` comes only where it rose
pub record HasStepCause (before now : ℕ) (result : Result Numbered StepRefusal) : Type 0 where
  pub never_falls : before ≤ now
  pub fault : IsErrOf result Store → Rose before now
