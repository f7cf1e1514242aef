-- Which replies may come to a command, whatever the repository.
use Rattle.std.specs.Prelude.{◌≡◌, ◌⊎◌, ℕ, ◌<◌, ◌^◌, List, [], ◌∷◌, length}
use Rattle.pj_name.specs.declared.name.Name.{Name}
use Rattle.pj_name.specs.Name.{name_of}
use Rattle.pj_change.specs.declared.point.Point.{Point}
use Rattle.pj_machine.specs.declared.command.Command.{Command}
use Rattle.pj_machine.specs.declared.command.Command.TheVariants as command
use Rattle.pj_machine.specs.declared.reply.Refusal.{Refusal}
use Rattle.pj_machine.specs.declared.reply.Refusal.TheVariants as refusal
use Rattle.pj_machine.specs.declared.reply.Reply.{Reply}
use Rattle.pj_machine.specs.declared.reply.Reply.TheVariants.{Done, Named, Already, AlreadyNamed, Body, No}
use Rattle.pj_machine.specs.declared.reply.Numbered.{Numbered}
use Rattle.pj_machine.specs.declared.reply.Numbered.TheVariants.{At, NoMemory}

-- it is one of these
abbrev pub IsAny : {X : Type 0} → List X → X → Type 0
IsAny [] x = ⊥
IsAny (y ∷ ys) x = (x ≡ y) ⊎ IsAny ys x

-- the reasons for which the command may be refused
abbrev pub MayRefuse : Command → Refusal → Type 0
MayRefuse (command.Put text) why = IsAny (refusal.Malformed ∷ refusal.Clash ∷ refusal.FullStore ∷ refusal.FullJournal ∷ []) why
MayRefuse (command.Get change) why = why ≡ refusal.Change
MayRefuse (command.Inverse change) why = (why ≡ refusal.Change) ⊎ ((k : ℕ) × (why ≡ refusal.Inverse k))
MayRefuse (command.New name) why = IsAny (refusal.Taken ∷ refusal.FullChannels ∷ refusal.FullJournal ∷ []) why
MayRefuse (command.Fork from to) why = IsAny (refusal.Channel ∷ refusal.Taken ∷ refusal.FullChannels ∷ refusal.FullJournal ∷ []) why
MayRefuse (command.Drop name) why = IsAny (refusal.Channel ∷ refusal.FullJournal ∷ []) why
MayRefuse (command.Apply name change) why =
    IsAny (refusal.Channel ∷ refusal.Change ∷ refusal.FullJournal ∷ []) why
    ⊎ (((need : Name) × (why ≡ refusal.Needs need)) ⊎ ((k : ℕ) × (why ≡ refusal.Context k)))
MayRefuse (command.Unrecord name change) why =
    IsAny (refusal.Channel ∷ refusal.Change ∷ refusal.Absent ∷ refusal.FullJournal ∷ []) why ⊎ ((holder : Name) × (why ≡ refusal.Held holder))
MayRefuse (command.Uproot name change) why = IsAny (refusal.Channel ∷ refusal.Change ∷ refusal.Absent ∷ refusal.FullJournal ∷ []) why
MayRefuse (command.Pull into from) why = IsAny (refusal.Channel ∷ refusal.FullJournal ∷ []) why
MayRefuse (command.Graph name) why = why ≡ refusal.Channel
MayRefuse (command.Print name) why = (why ≡ refusal.Channel) ⊎ ((inode : Point) × (why ≡ refusal.Wide inode))
MayRefuse (command.Log name) why = why ≡ refusal.Channel
MayRefuse command.Channels why = ⊥
MayRefuse command.Journal why = ⊥
MayRefuse command.Quit why = ⊥

-- what is asked for comes
abbrev pub IsBody : Reply → Type 0
IsBody reply = (body : List ℕ) × (reply ≡ Body body)

-- what may be replied where the command is not refused
abbrev pub MayTell : Command → Reply → Type 0
MayTell (command.Put text) reply = IsAny (Named (name_of text) ∷ AlreadyNamed (name_of text) ∷ []) reply
MayTell (command.Apply name change) reply = IsAny (Done ∷ Already ∷ []) reply
MayTell (command.Get change) reply = IsBody reply
MayTell (command.Inverse change) reply = IsBody reply
MayTell (command.Graph name) reply = IsBody reply
MayTell (command.Print name) reply = IsBody reply
MayTell (command.Log name) reply = IsBody reply
MayTell command.Channels reply = IsBody reply
MayTell command.Journal reply = IsBody reply
MayTell command.Quit reply = ⊥
MayTell x reply = reply ≡ Done

-- a reply that may come
abbrev pub MayCome : Command → Reply → Type 0
MayCome x reply = MayTell x reply ⊎ ((why : Refusal) × MayRefuse x why × (reply ≡ No why))

-- the numbers that a reason says are of 32 bits
abbrev pub HasShort : Refusal → Type 0
HasShort (refusal.Context hunk) = hunk < 2 ^ 32
HasShort (refusal.Wide inode) = inode.offset < 2 ^ 32
HasShort (refusal.Inverse hunk) = hunk < 2 ^ 32
HasShort why = Unit {0}

-- the numbers that a reply says fit the type of replies
abbrev pub HasRoom : Numbered → Type 0
HasRoom (At place (Body body)) = (place < 2 ^ 64) × (length body < 2 ^ 64)
HasRoom (At place (No why)) = (place < 2 ^ 64) × HasShort why
HasRoom (At place reply) = place < 2 ^ 64
HasRoom NoMemory = Unit {0}

-- out of memory, or a reply at any place
abbrev pub IsTold : Command → Numbered → Type 0
IsTold x (At place reply) = MayCome x reply
IsTold x NoMemory = Unit {0}

-- a reply to the command
pub record IsReplyTo (x : Command) (r : Numbered) : Type 0 where
  pub told : IsTold x r
  pub room : HasRoom r
