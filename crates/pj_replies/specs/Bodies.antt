-- Replies with a body, at the beginning of bytes.
use Rattle.std.specs.Prelude.{◌≡◌, ◌⊎◌, ℕ, ◌<◌, ◌^◌, List, ◌++◌, Option, Some, None, length}
use Rattle.pj_wire.specs.Replies.{reply_bytes}
use Rattle.pj_wire.specs.Spelled.{EndsWithin}
use Rattle.pj_machine.specs.declared.reply.Reply.TheVariants.{Body}
use Rattle.pj_machine.specs.declared.reply.Numbered.{Numbered}
use Rattle.pj_machine.specs.declared.reply.Numbered.TheVariants.{At}
use Rattle.pj_replies.specs.declared.due.Due.{Due}
use Rattle.pj_replies.specs.declared.due.Due.TheVariants as due
use Rattle.pj_replies.specs.declared.decoder.Reading.{Reading}
use Rattle.pj_replies.specs.declared.decoder.Reading.TheVariants.{Whole, More, Strange}
use Rattle.pj_replies.specs.Apart.{IsApart}
use Rattle.pj_replies.specs.Lines.{body_line, AreShort}

-- how many bytes of a body there may be, where one may come
abbrev pub most_of : Due → Option ℕ
most_of due.Log = Some 18446744073709551615
most_of due.Get = Some 16777216
most_of (due.Put name) = None
most_of due.Apply = None

-- a reply with a body
abbrev pub IsBodied : Numbered → Type 0
IsBodied r = (place : ℕ) × (body : List ℕ) × (place < 2 ^ 64) × (length body < 2 ^ 64) × (r ≡ At place (Body body))

-- the line is whole, and says that the body has more bytes than these
abbrev pub IsLong : ℕ → List ℕ → Type 0
IsLong most bytes = (p : ℕ × ℕ) × (rest : List ℕ) × AreShort p × (most < p.1) × (bytes ≡ body_line p ++ rest)

-- from the bytes left over before and after, where a reply with a body of at most so many bytes may stand
abbrev pub ReadsBody : ℕ → List ℕ → List ℕ → Reading → Type 0
ReadsBody most old new (Whole r) = IsBodied r × (old ≡ reply_bytes r ++ new) × (IsLong most old → ⊥)
ReadsBody most old new More = (new ≡ old) × EndsWithin reply_bytes IsBodied old × (IsLong most old → ⊥)
ReadsBody most old new Strange = (new ≡ old) × (IsApart reply_bytes IsBodied old ⊎ IsLong most old)
