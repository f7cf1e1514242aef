-- What is taken of a source for a reply, and why no reply came.
use Rattle.std.specs.Prelude.{◌≡◌, ◌⊎◌, ℕ, ◌+◌, ◌<◌, List, [], ◌++◌, length, Result, Ok, Err}
use Rattle.pj_machine.specs.declared.command.Command.{Command}
use Rattle.pj_machine.specs.declared.reply.Numbered.{Numbered}
use Rattle.pj_wire.specs.Replies.{reply_bytes}
use Rattle.pj_replies.specs.declared.due.Due.{Due}
use Rattle.pj_replies.specs.MayCome.{IsReplyTo}
use Rattle.pj_replies.specs.Reads.{IsDue, IsStrangeTo, IsTooLong}
use Rattle.pj_exchange.specs.Ends.{IsLess}
use Rattle.pj_sync.specs.declared.link.Link.{Link}
use Rattle.pj_sync.specs.declared.stop.Stop.{Stop}
use Rattle.pj_sync.specs.declared.stop.Stop.TheVariants.{Strange, Cut, Spent, ReadFault, Memory}

-- what became of bytes that were taken: some were, and wait behind the others; or there are none, or the source failed, or memory
-- ran out for them
abbrev pub Feeds : Link → Link → List ℕ → Type 0 → Result (Unit {0}) Stop → Type 0
Feeds old new taken Exhausted (Ok done) = (new.replies ≡ old.replies ++ taken) × (0 < length taken)
Feeds old new taken Exhausted (Err Cut) = (new.replies ≡ old.replies) × (taken ≡ []) × Exhausted
Feeds old new taken Exhausted (Err ReadFault) = (new.replies ≡ old.replies) × (taken ≡ [])
Feeds old new taken Exhausted (Err Memory) = Unit {0}
Feeds old new taken Exhausted (Err stop) = ⊥

-- bytes were taken of what was left, where it is told, and no more than may be
pub record Taken (Tells : Type 0) (old new : Link) (left left' : List ℕ) (result : Result (Unit {0}) Stop) : Type 0 where
  pub taken : List ℕ
  pub took : Tells → left ≡ taken ++ left'
  pub counted : length taken + new.room ≡ old.room
  pub feeds : Feeds old new taken (Tells → left' ≡ []) result

-- what the bytes are, where the reply to a request should stand: they begin with one; or they are none that may come; or they are
-- less than one, and nothing is left, or no more may be taken, or the source failed
abbrev pub Finds : Command → List ℕ → Link → Type 0 → Result Numbered Stop → Type 0
Finds x bytes new Exhausted (Ok r) = IsReplyTo x r × (bytes ≡ reply_bytes r ++ new.replies)
Finds x bytes new Exhausted (Err Strange) = (new.replies ≡ bytes) × (IsStrangeTo x bytes ⊎ IsTooLong x bytes)
Finds x bytes new Exhausted (Err Cut) = (new.replies ≡ bytes) × IsLess bytes x × (0 < new.room) × Exhausted
Finds x bytes new Exhausted (Err Spent) = (new.replies ≡ bytes) × IsLess bytes x × (new.room ≡ 0)
Finds x bytes new Exhausted (Err ReadFault) = (new.replies ≡ bytes) × IsLess bytes x
Finds x bytes new Exhausted (Err Memory) = Unit {0}

-- the same of a reply that is due, after as many bytes as it took
pub record Received (due : Due) (Tells : Type 0) (old new : Link) (left left' : List ℕ) (result : Result Numbered Stop) : Type 0 where
  pub taken : List ℕ
  pub took : Tells → left ≡ taken ++ left'
  pub counted : length taken + new.room ≡ old.room
  pub finds : (x : Command) → IsDue x due → Finds x (old.replies ++ taken) new (Tells → left' ≡ []) result
