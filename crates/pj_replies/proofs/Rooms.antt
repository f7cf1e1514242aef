-- Bytes begin with at most one reply to a command.
use Rattle.std.proofs.Common.{◌≡◌, ◌⊎◌, ℕ, List, [], ◌++◌, length, sym, ◌∙◌, ap, inl, inr, arith, append_assoc, append-nil, length-append}
use Rattle.pj_machine.specs.declared.command.Command.{Command}
use Rattle.pj_machine.specs.declared.reply.Reply.TheVariants as reply
use Rattle.pj_machine.specs.declared.reply.Refusal.{Refusal}
use Rattle.pj_machine.specs.declared.reply.Refusal.TheVariants as refusal
use Rattle.pj_machine.specs.declared.reply.Numbered.{Numbered}
use Rattle.pj_machine.specs.declared.reply.Numbered.TheVariants.{At, NoMemory}
use Rattle.pj_wire.specs.Replies.{reply_bytes, IsReason, IsReply}
use Rattle.pj_wire.proofs.Fronts.{either_begins}
use Rattle.pj_wire.proofs.OneReply as wire
use Rattle.pj_replies.specs.MayCome.{HasShort, HasRoom, IsReplyTo}
use Rattle.pj_replies.specs.Reads.{IsPartOf, IsStrangeTo}

-- a reason whose numbers have 32 bits can be read back
short_reason : (why : Refusal) → HasShort why → IsReason why
short_reason refusal.Channel h = tt
short_reason refusal.Taken h = tt
short_reason refusal.Change h = tt
short_reason refusal.Malformed h = tt
short_reason refusal.Clash h = tt
short_reason (refusal.Needs change) h = tt
short_reason (refusal.Context hunk) h = omega arith
short_reason refusal.Absent h = tt
short_reason (refusal.Held change) h = tt
short_reason (refusal.Wide inode) h = omega arith
short_reason (refusal.Inverse hunk) h = omega arith
short_reason refusal.FullStore h = tt
short_reason refusal.FullChannels h = tt
short_reason refusal.FullJournal h = tt

-- a reply with such numbers can be read back
pub room_reply : (r : Numbered) → HasRoom r → IsReply r
room_reply (At place reply.Done) h = h
room_reply (At place (reply.Named change)) h = h
room_reply (At place reply.Already) h = h
room_reply (At place (reply.AlreadyNamed change)) h = h
room_reply (At place (reply.Body body)) h = h
room_reply (At place (reply.No why)) h = (h.0, short_reason why h.1)
room_reply NoMemory h = tt

-- bytes begin with at most one reply to a command
pub one_reply : (x : Command) (r q : Numbered) (a b : List ℕ) → IsReplyTo x r → IsReplyTo x q → reply_bytes r ++ a ≡ reply_bytes q ++ b → (r ≡ q) × (a ≡ b)
one_reply x r q a b p o e = wire.one_reply r q a b (room_reply r p.room) (room_reply q o.room) e

-- less than a reply begins with none
pub part_has_none : (x : Command) (bytes : List ℕ) (r : Numbered) (rest : List ℕ) → IsPartOf x bytes → IsReplyTo x r → bytes ≡ reply_bytes r ++ rest → ⊥
part_has_none x bytes r rest part is e =
    let whole : reply_bytes r ++ (rest ++ part.missing) ≡ reply_bytes part.value ++ [] =
    sym (append_assoc (reply_bytes r) rest part.missing) ∙ ap (λ t. t ++ part.missing) (sym e) ∙ part.whole ∙ sym (append-nil (reply_bytes part.value)) in
    let none : rest ++ part.missing ≡ [] = (one_reply x r part.value (rest ++ part.missing) [] is part.allowed whole).1 in
    let size = ap (λ (t : List ℕ). length t) none in
    let more = part.some in
    omega (arith, length-append rest part.missing)

-- what begins no reply stays so
pub strange_stays : (x : Command) (bytes more : List ℕ) → IsStrangeTo x bytes → IsStrangeTo x (bytes ++ more)
strange_stays x bytes more s = record {
  has_none = λ r rest is e. none r rest is (either_begins bytes more (reply_bytes r) rest e);
  begins_none = λ r later is e. s.begins_none r (more ++ later) is (sym (append_assoc bytes more later) ∙ e);
}
  where
    none : (r : Numbered) (rest : List ℕ) → IsReplyTo x r → ((t : List ℕ) × (bytes ++ t ≡ reply_bytes r)) ⊎ ((t : List ℕ) × (bytes ≡ reply_bytes r ++ t)) → ⊥
    none r rest is either = elim either [ inl h ↦ s.begins_none r h.0 is h.1 | inr h ↦ s.has_none r h.0 is h.1 ]
