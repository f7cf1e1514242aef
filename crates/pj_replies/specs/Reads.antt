-- What stands at the beginning of bytes where the reply to a command is due.
use Rattle.std.specs.Prelude.{◌≡◌, ◌⊎◌, ℕ, ◌<◌, ◌^◌, List, [], ◌∷◌, ◌++◌, codes, decimal}
use Rattle.pj_name.specs.declared.name.Name.{Name}
use Rattle.pj_name.specs.Name.{name_of}
use Rattle.pj_change.specs.Text.{line}
use Rattle.pj_machine.specs.declared.command.Command.{Command}
use Rattle.pj_machine.specs.declared.command.Command.TheVariants as command
use Rattle.pj_machine.specs.declared.reply.Numbered.{Numbered}
use Rattle.pj_wire.specs.Replies.{reply_bytes}
use Rattle.pj_wire.specs.Spelled.{EndsWithin}
use Rattle.pj_replies.specs.declared.due.Due.{Due}
use Rattle.pj_replies.specs.declared.due.Due.TheVariants as due
use Rattle.pj_replies.specs.declared.decoder.Reading.{Reading}
use Rattle.pj_replies.specs.declared.decoder.Reading.TheVariants.{Whole, More, Strange}
use Rattle.pj_replies.specs.Apart.{IsApart}
use Rattle.pj_replies.specs.MayCome.{IsReplyTo}

-- the bytes are those of a reply to the command
pub record Gets (x : Command) (bytes : List ℕ) (r : Numbered) : Type 0 where
  pub reply : IsReplyTo x r
  pub is : bytes ≡ reply_bytes r

-- what of the command says how its reply is read
abbrev pub IsDue : Command → Due → Type 0
IsDue (command.Log name) due.Log = Unit {0}
IsDue (command.Get change) due.Get = Unit {0}
IsDue (command.Put text) (due.Put name) = name ≡ name_of text
IsDue (command.Apply name change) due.Apply = Unit {0}
IsDue x d = ⊥

-- the bytes are a prefix of a reply to the command, and not all of it; no bytes at all are one
abbrev pub IsPartOf : Command → List ℕ → Type 0
IsPartOf x bytes = EndsWithin reply_bytes (IsReplyTo x) bytes

-- they neither begin with a reply to the command nor are a prefix of one
abbrev pub IsStrangeTo : Command → List ℕ → Type 0
IsStrangeTo x bytes = IsApart reply_bytes (IsReplyTo x) bytes

-- the first line is whole, and says of the text of a change that it has more bytes than any
pub record IsTooLong (x : Command) (bytes : List ℕ) : Type 0 where
  pub change : Name
  pub asked : x ≡ command.Get change
  pub place : ℕ
  pub count : ℕ
  pub rest : List ℕ
  pub whole : bytes ≡ line (codes "ok" ∷ decimal place ∷ decimal count ∷ []) ++ rest
  pub few : (place < 2 ^ 64) × (count < 2 ^ 64)
  pub many : 16777216 < count

-- from the bytes left over before and after, where the reply to the command is due
abbrev pub Reads : Command → List ℕ → List ℕ → Reading → Type 0
Reads x old new (Whole r) = IsReplyTo x r × (old ≡ reply_bytes r ++ new) × (IsTooLong x old → ⊥)
Reads x old new More = (new ≡ old) × IsPartOf x old × (IsTooLong x old → ⊥)
Reads x old new Strange = (new ≡ old) × (IsStrangeTo x old ⊎ IsTooLong x old)
