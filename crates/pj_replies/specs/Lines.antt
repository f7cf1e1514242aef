-- Replies of one line, by what is due.
use Rattle.std.specs.Prelude.{◌≡◌, ◌⊎◌, ℕ, ◌<◌, ◌^◌, List, [], ◌∷◌, ◌++◌, codes, decimal}
use Rattle.pj_name.specs.Name.{hex, no_name}
use Rattle.pj_change.specs.Text.{line}
use Rattle.pj_machine.specs.declared.command.Command.{Command}
use Rattle.pj_machine.specs.declared.command.Command.TheVariants as command
use Rattle.pj_machine.specs.declared.reply.Refusal.{Refusal}
use Rattle.pj_machine.specs.declared.reply.Reply.{Reply}
use Rattle.pj_machine.specs.declared.reply.Reply.TheVariants.{Done, Named, Already, AlreadyNamed, No}
use Rattle.pj_machine.specs.declared.reply.Numbered.{Numbered}
use Rattle.pj_machine.specs.declared.reply.Numbered.TheVariants.{At, NoMemory}
use Rattle.pj_wire.specs.Replies.{reason}
use Rattle.pj_replies.specs.declared.due.Due.{Due}
use Rattle.pj_replies.specs.declared.due.Due.TheVariants as due
use Rattle.pj_replies.specs.MayCome.{IsAny, MayRefuse, HasShort}

-- a command that is refused for the same reasons
abbrev pub like : Due → Command
like due.Log = command.Log []
like due.Get = command.Get no_name
like (due.Put name) = command.Put []
like due.Apply = command.Apply [] no_name

-- the reason is one that may come
abbrev pub IsDueReason : Due → Refusal → Type 0
IsDueReason d why = MayRefuse (like d) why × HasShort why

-- a reason, and the newline that ends the line
abbrev pub reason_line : Refusal → List ℕ
reason_line why = reason why ++ 10 ∷ []

-- what is told in one line
abbrev pub IsDueTold : Due → Reply → Type 0
IsDueTold (due.Put name) reply = IsAny (Named name ∷ AlreadyNamed name ∷ []) reply
IsDueTold due.Apply reply = IsAny (Done ∷ Already ∷ []) reply
IsDueTold d reply = ⊥

-- where it tells of a text, what stands behind the place
abbrev pub stored_bytes : Reply → List ℕ
stored_bytes (Named change) = hex change.bytes ++ 10 ∷ []
stored_bytes (AlreadyNamed change) = codes "already " ++ (hex change.bytes ++ 10 ∷ [])
stored_bytes reply = []

-- a reply of one line that tells what was done
abbrev pub IsTold : Due → Numbered → Type 0
IsTold d (At place reply) = (place < 2 ^ 64) × IsDueTold d reply
IsTold d NoMemory = ⊥

-- a change was applied now
abbrev pub IsDone : Numbered → Type 0
IsDone r = (place : ℕ) × (place < 2 ^ 64) × (r ≡ At place Done)

-- a change was applied before
abbrev pub IsAlready : Numbered → Type 0
IsAlready r = (place : ℕ) × (place < 2 ^ 64) × (r ≡ At place Already)

-- a refusal
abbrev pub IsRefusal : Due → Numbered → Type 0
IsRefusal d (At place (No why)) = (place < 2 ^ 64) × IsDueReason d why
IsRefusal d r = ⊥

-- a reply of one line
abbrev pub IsLine : Due → Numbered → Type 0
IsLine d r = IsTold d r ⊎ (IsRefusal d r ⊎ (r ≡ NoMemory))

-- the line of a reply with a body: its place, and how many bytes the body has
abbrev pub body_line : ℕ × ℕ → List ℕ
body_line p = line (codes "ok" ∷ decimal p.0 ∷ decimal p.1 ∷ [])

-- both are numbers of 64 bits
abbrev pub AreShort : ℕ × ℕ → Type 0
AreShort p = (p.0 < 2 ^ 64) × (p.1 < 2 ^ 64)
