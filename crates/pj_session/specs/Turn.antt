-- What was written of replies by the end, and what is done with the bytes that wait.
use Rattle.std.specs.Prelude.{◌≡◌, ℕ, ◌<◌, ◌≤◌, List, [], ◌∷◌, ◌++◌, length, All, Option, Some, None}
use Rattle.pj_io.specs.Causes.{Rose}
use Rattle.pj_io.specs.Sink.{AppendsFront}
use Rattle.pj_machine.specs.declared.command.Command.{Command}
use Rattle.pj_machine.specs.declared.command.Command.TheVariants.{Quit}
use Rattle.pj_machine.specs.declared.reply.Numbered.{Numbered}
use Rattle.pj_wire.specs.Replies.{reply_bytes, written, IsReply}
use Rattle.pj_wire.specs.Requests.{spelling, spellings, IsCall, IsPart, IsStrange}
use Rattle.pj_session.specs.declared.end.End.{End}
use Rattle.pj_session.specs.declared.end.End.TheVariants.{Done, WriteFault, Bad, Memory, StoreFault}

-- all replies were written but the last, and of that one a front
pub record WrotePart (old new : List ℕ) (replies : List Numbered) : Type 0 where
  pub whole : List Numbered
  pub last : Numbered
  pub all : replies ≡ whole ++ last ∷ []
  pub front : AppendsFront (old ++ written whole) new (reply_bytes last)

-- all replies were written but the last
pub record WroteButLast (old new : List ℕ) (replies : List Numbered) : Type 0 where
  pub whole : List Numbered
  pub last : Numbered
  pub all : replies ≡ whole ++ last ∷ []
  pub bytes : new ≡ old ++ written whole

-- what was written of the replies, by the end
abbrev pub Wrote : End → List ℕ → List ℕ → List Numbered → Type 0
Wrote WriteFault old new replies = WrotePart old new replies
Wrote StoreFault old new replies = WroteButLast old new replies
Wrote end old new replies = new ≡ old ++ written replies

-- the same where the session may go on
abbrev pub WroteSoFar : Option End → List ℕ → List ℕ → List Numbered → Type 0
WroteSoFar (Some end) old new replies = Wrote end old new replies
WroteSoFar None old new replies = new ≡ old ++ written replies

-- where the requests stop, and what is left behind them
abbrev pub Stops : Option End → List Command → List ℕ → List ℕ → Type 0
Stops None requests bytes left = (bytes ≡ spellings requests ++ left) × IsPart left
Stops (Some Bad) requests bytes left = (bytes ≡ spellings requests ++ left) × IsStrange left
Stops (Some Done) requests bytes left = bytes ≡ spellings requests ++ (spelling Quit ++ left)
Stops (Some WriteFault) requests bytes left = (bytes ≡ spellings requests ++ left) × (0 < length requests)
Stops (Some StoreFault) requests bytes left = (bytes ≡ spellings requests ++ left) × (0 < length requests)
Stops (Some Memory) requests bytes left = (rest : List ℕ) × (bytes ≡ spellings requests ++ rest)
Stops (Some other) requests bytes left = ⊥

-- the requests at the front of the bytes were answered, by replies whose numbers have 64 bits; `Did` says what was done of them
-- and their replies
pub record Turn (bytes left : List ℕ) (Did : List Command → List Numbered → Type 0) (ended : Option End) : Type 0 where
  pub requests : List Command
  pub replies : List Numbered
  pub each : All IsCall requests
  pub small : All IsReply replies
  pub stops : Stops ended requests bytes left
  pub did : Did requests replies

-- the count does not fall, and this end comes only where it rose
pub record HasEndCause (before now : ℕ) (end : End) (ended : Option End) : Type 0 where
  pub never_falls : before ≤ now
  pub fault : ended ≡ Some end → Rose before now
