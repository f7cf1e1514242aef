-- What one session does.
use Rattle.std.specs.Prelude.{◌≡◌, ◌⊎◌, ℕ, ◌<◌, ◌≤◌, Bool, true, false, List, [], length, All}
use Rattle.pj_machine.specs.declared.command.Command.{Command}
use Rattle.pj_machine.specs.declared.reply.Numbered.{Numbered}
use Rattle.pj_wire.specs.Requests.{Begins, HasRequests, IsPart, IsStrange}
use Rattle.pj_wire.specs.Replies.{IsReply}
use Rattle.pj_session.specs.declared.end.End.{End}
use Rattle.pj_session.specs.declared.end.End.TheVariants.{Done, ReadFault, WriteFault, Bad, Cut, Spent, Memory, StoreFault}

-- the most bytes that are asked for at once
abbrev pub piece : ℕ
piece = 4096

-- `requests` are those of the bytes taken, or the first ones where a fault of the sink or of the store, or want of memory, ended the
-- session
abbrev pub Asked : End → List ℕ → List Command → Bool → List ℕ → Type 0
Asked WriteFault taken requests quit rest = Begins taken requests quit rest
Asked StoreFault taken requests quit rest = Begins taken requests quit rest
Asked Memory taken requests quit rest = Begins taken requests quit rest
Asked end taken requests quit rest = HasRequests taken requests quit rest

-- Why a session ended. `quit` says whether the request to quit follows the others, `rest` what follows them all, `Exhausted`
-- that nothing is left in the source.
abbrev pub EndsBy : ℕ → List ℕ → Type 0 → List Command → Bool → List ℕ → End → Type 0
EndsBy limit taken Exhausted requests quit rest Done =
    ((quit ≡ true) × (length rest < piece))
    ⊎ ((quit ≡ false) × (rest ≡ []) × (length taken < limit) × Exhausted)
EndsBy limit taken Exhausted requests quit rest Bad = (quit ≡ false) × IsStrange rest
EndsBy limit taken Exhausted requests quit rest Cut = (quit ≡ false) × IsPart rest × (0 < length rest) × (length taken < limit) × Exhausted
EndsBy limit taken Exhausted requests quit rest Spent = (quit ≡ false) × IsPart rest × (length taken ≡ limit)
EndsBy limit taken Exhausted requests quit rest ReadFault = (quit ≡ false) × IsPart rest
EndsBy limit taken Exhausted requests quit rest WriteFault = (quit ≡ false) × (0 < length requests) × (length rest < piece)
EndsBy limit taken Exhausted requests quit rest StoreFault = (quit ≡ false) × (0 < length requests) × (length rest < piece)
EndsBy limit taken Exhausted requests quit rest Memory = quit ≡ false

-- A session over at most `limit` bytes. `Took` says of bytes that they are those taken from the source, and `Did` of requests
-- and replies what became of them. The numbers of the replies have 64 bits, so bytes are those of one list of replies at most.
pub record IsSession (limit : ℕ) (Took : List ℕ → Type 0) (Exhausted : Type 0) (Did : List Command → List Numbered → Type 0) (end : End) : Type 0 where
  pub taken : List ℕ
  pub requests : List Command
  pub replies : List Numbered
  pub quit : Bool
  pub rest : List ℕ
  pub took : Took taken
  pub few : length taken ≤ limit
  pub asked : Asked end taken requests quit rest
  pub ends : EndsBy limit taken Exhausted requests quit rest end
  pub small : All IsReply replies
  pub did : Did requests replies
