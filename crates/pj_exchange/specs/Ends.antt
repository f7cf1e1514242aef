-- Why an exchange ended.
use Rattle.std.specs.Prelude.{◌≡◌, ◌≢◌, ◌⊎◌, ℕ, ◌+◌, ◌<◌, ◌≤◌, Bool, true, false, List, [], ◌∷◌, ◌++◌, length, AllPairs}
use Rattle.pj_name.specs.declared.name.Name.{Name}
use Rattle.pj_name.specs.Name.{name_of}
use Rattle.pj_machine.specs.declared.channel_name.ChannelName.{ChannelName}
use Rattle.pj_machine.specs.declared.command.Command.{Command}
use Rattle.pj_machine.specs.declared.command.Command.TheVariants.{Quit}
use Rattle.pj_machine.specs.declared.reply.Refusal.{Refusal}
use Rattle.pj_machine.specs.declared.reply.Refusal.TheVariants as refusal
use Rattle.pj_machine.specs.declared.reply.Reply.TheVariants.{Done as Applied, Body, No}
use Rattle.pj_machine.specs.declared.reply.Numbered.{Numbered}
use Rattle.pj_machine.specs.declared.reply.Numbered.TheVariants.{At, NoMemory}
use Rattle.pj_machine.specs.declared.command.Command.TheVariants as command
use Rattle.pj_machine.specs.Listings.{log_text}
use Rattle.pj_io.specs.Sink.{AppendsFront}
use Rattle.pj_wire.specs.Requests.{spelling, spellings}
use Rattle.pj_wire.specs.Replies.{written}
use Rattle.pj_replies.specs.MayCome.{IsReplyTo}
use Rattle.pj_replies.specs.Reads.{IsPartOf, IsStrangeTo, IsTooLong}
use Rattle.pj_exchange.specs.declared.end.SyncEnd.{SyncEnd}
use Rattle.pj_exchange.specs.declared.end.SyncEnd.TheVariants.{Done, Remote, Strange, Local, Cut, Spent, ReadFault, WriteFault, StoreFault, Memory}
use Rattle.pj_exchange.specs.Events.{Event, Here, There, asked, told, sent, got}
use Rattle.pj_exchange.specs.Phases.{Phase, Asking, Listing, Getting, Storing, Applying, Over, Says, Runs, Requests, Asks}

-- how many changes were applied here
unfoldable pub taken_of : List Event → ℕ
taken_of [] = 0
taken_of (Here (command.Apply c n) (At place Applied) ∷ events) = taken_of events + 1
taken_of (event ∷ events) = taken_of events

-- how many were sent to be applied there
unfoldable pub given_of : List Event → ℕ
given_of [] = 0
given_of (There (command.Apply c n) r ∷ events) = given_of events + 1
given_of (event ∷ events) = given_of events

-- the command applies a change
abbrev pub is_application : Command → Bool
is_application (command.Apply name change) = true
is_application x = false

-- the reply is a refusal, or that the other side was out of memory
abbrev pub IsNo : Numbered → Type 0
IsNo (At place (No why)) = Unit {0}
IsNo (At place reply) = ⊥
IsNo NoMemory = Unit {0}

-- a reply that may come, and does not lead on: names that are no log, or another text
abbrev pub IsOdd : Phase → Numbered → Type 0
IsOdd (Listing mine) r = (body : List ℕ) × Says (Body body) r × ((names : List Name) → AllPairs (λ m n. m ≢ n) names → body ≢ log_text names)
IsOdd (Getting n ns offer) r = (text : List ℕ) × Says (Body text) r × (name_of text ≢ n)
IsOdd phase r = ⊥

-- what was got is no change of the channel
abbrev pub IsUnfit : Phase → Refusal → Type 0
IsUnfit (Storing n text ns offer) why = why ≡ refusal.Malformed
IsUnfit (Applying n ns offer) why = ((need : Name) × (why ≡ refusal.Needs need)) ⊎ ((k : ℕ) × (why ≡ refusal.Context k))
IsUnfit phase why = ⊥

-- a refusal here that the exchange has an answer to: there is no such channel yet
abbrev pub IsForeseen : Phase → Refusal → Type 0
IsForeseen Asking why = why ≡ refusal.Channel
IsForeseen phase why = IsUnfit phase why

-- How far an exchange came: what happened, up to this phase; what happened in it that does not lead on, at most one event; the
-- request that was sent and has no reply yet, at most one; the bytes that were taken, and those of them that were not read.
pub record Course : Type 0 where
  pub run : List Event
  pub phase : Phase
  pub last : List Event
  pub pending : List Command
  pub taken : List ℕ
  pub rest : List ℕ

-- all that happened
abbrev pub all_of : Course → List Event
all_of s = s.run ++ s.last

-- what happened last, if anything did, is what the phase asks for here or sends
abbrev pub IsOfPhase : ChannelName → Phase → List Event → Type 0
IsOfPhase c phase [] = Unit {0}
IsOfPhase c phase (Here x r ∷ []) = Asks c phase x
IsOfPhase c phase (There x r ∷ []) = Requests c phase x
IsOfPhase c phase events = ⊥

-- a reply is due, and of the bytes where it should stand this holds
pub record IsDueIn (c : ChannelName) (s : Course) (Of : Command → Type 0) : Type 0 where
  pub none : s.last ≡ []
  pub request : Command
  pub is : s.pending ≡ request ∷ []
  pub sends : Requests c s.phase request
  pub of : Of request

-- the bytes so far are less than a reply
abbrev pub IsLess : List ℕ → Command → Type 0
IsLess rest x = IsPartOf x rest × (IsTooLong x rest → ⊥)

-- this was refused here last
pub record IsLastHere (c : ChannelName) (s : Course) (why : Refusal) : Type 0 where
  pub command : Command
  pub place : ℕ
  pub is : s.last ≡ Here command (At place (No why)) ∷ []
  pub asks : Asks c s.phase command

-- this was replied there last
pub record IsLastThere (c : ChannelName) (s : Course) (P : Numbered → Type 0) : Type 0 where
  pub request : Command
  pub reply : Numbered
  pub is : s.last ≡ There request reply ∷ []
  pub sends : Requests c s.phase request
  pub of : P reply

-- how many replies were read
abbrev pub replies_of : Course → ℕ
replies_of s = length (got (all_of s))

-- what was got leads nowhere: another text, names that are no log, or no change of the channel
abbrev pub IsOddLast : ChannelName → Course → Type 0
IsOddLast c s = IsLastThere c s (IsOdd s.phase) ⊎ ((why : Refusal) × IsLastHere c s why × IsUnfit s.phase why)

-- Why it ended. `Exhausted` says that nothing is left in the source.
abbrev pub EndsBy : ChannelName → ℕ → Course → Type 0 → SyncEnd → Type 0
EndsBy c limit s Exhausted (Done took gave) = (s.phase ≡ Over) × (s.last ≡ []) × (took ≡ taken_of s.run) × (gave ≡ given_of s.run)
EndsBy c limit s Exhausted (Remote request) = (request ≡ replies_of s) × IsLastThere c s IsNo
EndsBy c limit s Exhausted (Strange request) =
    ((request ≡ replies_of s + 1) × IsDueIn c s (λ x. IsStrangeTo x s.rest ⊎ IsTooLong x s.rest)) ⊎ ((request ≡ replies_of s) × IsOddLast c s)
EndsBy c limit s Exhausted (Local why) = IsLastHere c s why × (IsForeseen s.phase why → ⊥)
EndsBy c limit s Exhausted Cut = IsDueIn c s (IsLess s.rest) × (length s.taken < limit) × Exhausted
EndsBy c limit s Exhausted Spent = IsDueIn c s (IsLess s.rest) × (length s.taken ≡ limit)
EndsBy c limit s Exhausted ReadFault = IsDueIn c s (IsLess s.rest)
EndsBy c limit s Exhausted WriteFault = (s.last ≡ []) × (s.pending ≡ [])
EndsBy c limit s Exhausted StoreFault = (x : Command) × (r : Numbered) × (s.last ≡ Here x r ∷ []) × Asks c s.phase x
EndsBy c limit s Exhausted Memory = Unit {0}

-- the end has a cause that is told exactly: it is no fault of the outside, and not that memory ran out
abbrev pub IsExact : SyncEnd → Type 0
IsExact ReadFault = ⊥
IsExact WriteFault = ⊥
IsExact StoreFault = ⊥
IsExact Memory = ⊥
IsExact end = Unit {0}

-- what the phase sends next, or the request to quit
abbrev pub IsNext : ChannelName → Phase → Command → Type 0
IsNext c phase x = Requests c phase x ⊎ ((phase ≡ Over) × (x ≡ Quit))

-- what the sink got: the requests, and the one to quit at the end; of the one that failed a prefix
abbrev pub Sent : SyncEnd → List ℕ → List ℕ → (Command → Type 0) → List Command → Type 0
Sent (Done took gave) old new Next requests = new ≡ old ++ (spellings requests ++ spelling Quit)
Sent WriteFault old new Next requests = (x : Command) × Next x × AppendsFront (old ++ spellings requests) new (spelling x)
Sent end old new Next requests = new ≡ old ++ spellings requests

-- no reply is due, or that to the request of the phase
abbrev pub Waits : ChannelName → Course → Type 0
Waits c s = (s.pending ≡ []) ⊎ ((s.last ≡ []) × ((x : Command) × (s.pending ≡ x ∷ []) × Requests c s.phase x))

-- each reply may come to its request, and its numbers fit
abbrev pub AreReplies : List Command → List Numbered → Type 0
AreReplies [] [] = Unit {0}
AreReplies (x ∷ xs) (r ∷ rs) = IsReplyTo x r × AreReplies xs rs
AreReplies [] (r ∷ rs) = ⊥
AreReplies (x ∷ xs) [] = ⊥

-- it went on by the phases, and the bytes that were taken are those of the replies, with the rest behind them
pub record IsCourse (c : ChannelName) (s : Course) : Type 0 where
  pub runs : Runs c Asking s.run s.phase
  pub of_phase : IsOfPhase c s.phase s.last
  pub waits : Waits c s
  pub replies : AreReplies (sent (all_of s)) (got (all_of s))
  pub read : s.taken ≡ written (got (all_of s)) ++ s.rest

-- An exchange of at most `limit` bytes. `Took` says of bytes that they are those taken from the source, `Did` of commands and results
-- what became of them here, and `Gave` of requests that they are those that the sink got.
pub record IsSync (c : ChannelName) (limit : ℕ) (Took : List ℕ → Type 0) (Exhausted : Type 0) (Did : List Command → List Numbered → Type 0)
    (Gave : (Command → Type 0) → List Command → Type 0) (end : SyncEnd) : Type 0 where
  pub course : Course
  pub goes : IsCourse c course
  pub took : Took course.taken
  pub few : length course.taken ≤ limit
  pub did : Did (asked (all_of course)) (told (all_of course))
  pub gave : Gave (IsNext c course.phase) (sent (all_of course) ++ course.pending)
  pub ends : EndsBy c limit course Exhausted end
