-- The reply to a command with the write that is entered, and refusals that come one after the other.
use Rattle.std.specs.Prelude.{◌≡◌, ℕ, List, Option, Some, None, ◌⊎◌}
use Rattle.pj_machine.specs.declared.command.Write.{Write}
use Rattle.pj_machine.specs.declared.reply.Reply.{Reply}
use Rattle.pj_machine.specs.declared.reply.Reply.TheVariants.{Body, No}
use Rattle.pj_machine.specs.declared.reply.Refusal.{Refusal}

-- a reply, and the write that is entered, if one is
pub record Outcome : Type 0 where
  pub reply : Reply
  pub entered : Option Write

-- a reply alone
abbrev pub says : Reply → Outcome
says reply = record { reply = reply; entered = None }

-- a refusal, which enters nothing
abbrev pub refuses : Refusal → Outcome
refuses refusal = says (No refusal)

-- what was asked for
abbrev pub gives : List ℕ → Outcome
gives body = says (Body body)

-- a reply with a write
abbrev pub enters : Reply → Write → Outcome
enters reply write = record { reply = reply; entered = Some write }

-- where the cause stands, this is the reply and nothing is entered; else the outcome is as the rest says
abbrev pub Unless : Type 0 → Reply → (Outcome → Type 0) → Outcome → Type 0
Unless cause reply rest outcome = (cause × (outcome ≡ says reply)) ⊎ ((cause → ⊥) × rest outcome)
