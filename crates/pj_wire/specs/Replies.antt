-- Replies as bytes.
use Rattle.std.specs.Prelude.{ℕ, ◌^◌, ◌<◌, List, [], ◌∷◌, ◌++◌, length, codes, decimal}
use Rattle.std.specs.List.{flat_map}
use Rattle.pj_name.specs.Name.{hex}
use Rattle.pj_change.specs.Text.{line}
use Rattle.pj_change.specs.Children.{point_text}
use Rattle.pj_machine.specs.declared.reply.Reply.TheVariants as reply
use Rattle.pj_machine.specs.declared.reply.Refusal.{Refusal}
use Rattle.pj_machine.specs.declared.reply.Refusal.TheVariants as refusal
use Rattle.pj_machine.specs.declared.reply.Numbered.{Numbered}
use Rattle.pj_machine.specs.declared.reply.Numbered.TheVariants as numbered

-- why a command was refused
abbrev pub reason : Refusal → List ℕ
reason refusal.Channel = codes "channel"
reason refusal.Taken = codes "taken"
reason refusal.Change = codes "change"
reason refusal.Malformed = codes "malformed"
reason refusal.Clash = codes "clash"
reason (refusal.Needs change) = codes "needs " ++ hex change.bytes
reason (refusal.Context hunk) = codes "context " ++ decimal hunk
reason refusal.Absent = codes "absent"
reason (refusal.Held change) = codes "held " ++ hex change.bytes
reason (refusal.Wide inode) = codes "wide " ++ point_text inode
reason (refusal.Inverse hunk) = codes "inverse " ++ decimal hunk
reason refusal.FullStore = codes "full store"
reason refusal.FullChannels = codes "full channels"
reason refusal.FullJournal = codes "full journal"

-- a reply up to its body
abbrev pub head_of : Numbered → List ℕ
head_of (numbered.At place reply.Done) = line (codes "ok" ∷ decimal place ∷ [])
head_of (numbered.At place (reply.Named change)) = line (codes "ok" ∷ decimal place ∷ hex change.bytes ∷ [])
head_of (numbered.At place reply.Already) = line (codes "ok" ∷ decimal place ∷ codes "already" ∷ [])
head_of (numbered.At place (reply.AlreadyNamed change)) = line (codes "ok" ∷ decimal place ∷ codes "already" ∷ hex change.bytes ∷ [])
head_of (numbered.At place (reply.Body body)) = line (codes "ok" ∷ decimal place ∷ decimal (length body) ∷ [])
head_of (numbered.At place (reply.No why)) = line (codes "no" ∷ decimal place ∷ reason why ∷ [])
head_of numbered.NoMemory = line (codes "no memory" ∷ [])

-- the body, with a newline behind it
abbrev pub tail_of : Numbered → List ℕ
tail_of (numbered.At place (reply.Body body)) = body ++ 10 ∷ []
tail_of r = []

-- the bytes of a reply
abbrev pub reply_bytes : Numbered → List ℕ
reply_bytes r = head_of r ++ tail_of r

-- the bytes of all replies
abbrev pub written : List Numbered → List ℕ
written rs = flat_map reply_bytes rs

-- the number that the reason says, if it says one, is below 2 ^ 64
abbrev pub IsReason : Refusal → Type 0
IsReason (refusal.Context hunk) = hunk < 2 ^ 64
IsReason (refusal.Wide inode) = inode.offset < 2 ^ 64
IsReason (refusal.Inverse hunk) = hunk < 2 ^ 64
IsReason why = Unit {0}

-- the numbers that a reply says are below 2 ^ 64: its place, the length of its body, and that of its reason
abbrev pub IsReply : Numbered → Type 0
IsReply (numbered.At place (reply.Body body)) = (place < 2 ^ 64) × (length body < 2 ^ 64)
IsReply (numbered.At place (reply.No why)) = (place < 2 ^ 64) × IsReason why
IsReply (numbered.At place r) = place < 2 ^ 64
IsReply numbered.NoMemory = Unit {0}
