-- Whom an exchange is with.
use Rattle.std.specs.Prelude.{ℕ, Contains, List, ◌++◌}
use mathlib.Core.List.{IsPrefix}
use Rattle.pj_change.specs.Sets.{HaveOneText}
use Rattle.pj_machine.specs.declared.channel_name.ChannelName.{ChannelName}
use Rattle.pj_machine.specs.declared.command.Command.{Command}
use Rattle.pj_machine.specs.declared.journal.Entry.{Entry}
use Rattle.pj_machine.specs.declared.limits.Limits.{Limits}
use Rattle.pj_machine.specs.declared.reply.Numbered.{Numbered}
use Rattle.pj_machine.specs.declared.reply.Refusal.{Refusal}
use Rattle.pj_machine.specs.declared.reply.Refusal.TheVariants as refusal
use Rattle.pj_machine.specs.declared.reply.Numbered.TheVariants.{At}
use Rattle.pj_machine.specs.declared.reply.Reply.TheVariants.{No}
use Rattle.pj_machine.specs.Replay.{IsReplay}
use Rattle.pj_machine.specs.State.{State}
use Rattle.pj_wire.specs.Replies.{written}
use Rattle.pj_exchange.specs.declared.end.SyncEnd.{SyncEnd}
use Rattle.pj_exchange.specs.declared.end.SyncEnd.TheVariants.{Done, Strange, Local, Cut, ReadFault, WriteFault, StoreFault, Memory}
use Rattle.pj_exchange.specs.Sides.{AreUnited, IsSide, first_place, last_place}

-- the stores have one text for each name, taken together
abbrev pub HaveOneTextTogether : List Entry → List Entry → Type 0
HaveOneTextTogether here there = (s t : State) → IsReplay here s → IsReplay there t → HaveOneText (s.store ++ t.store)

-- These requests were replied to by a repository: the bytes that come begin with the replies to a pass of it, and a name that both
-- stores have has one text.
pub record IsHonest (c : ChannelName) (here : List Entry) (requests : List Command) (bytes : List ℕ) : Type 0 where
  pub limits : Limits
  pub journal : List Entry
  pub pass : ℕ
  pub replies : List Numbered
  pub side : IsSide limits journal pass c requests replies
  pub bytes_are : IsPrefix (written replies) bytes
  pub one_text : HaveOneTextTogether here journal

-- the refusal is that of a limit
abbrev pub IsOfLimit : Refusal → Type 0
IsOfLimit refusal.FullStore = Unit {0}
IsOfLimit refusal.FullChannels = Unit {0}
IsOfLimit refusal.FullJournal = Unit {0}
IsOfLimit why = ⊥

-- no refusal among these replies is that of a limit
abbrev pub HasNoLimit : List Numbered → Type 0
HasNoLimit rs = (place : ℕ) (why : Refusal) → IsOfLimit why → Contains rs (At place (No why)) → ⊥

-- the exchange was whole, or memory ran out
abbrev pub IsWhole : SyncEnd → Type 0
IsWhole (Done took gave) = Unit {0}
IsWhole Memory = Unit {0}
IsWhole end = ⊥

-- the outside failed
abbrev pub IsFault : SyncEnd → Type 0
IsFault ReadFault = Unit {0}
IsFault WriteFault = Unit {0}
IsFault StoreFault = Unit {0}
IsFault end = ⊥

-- what an end tells, where the other server is such a repository: all was done, and the lists are united; only a limit
-- refused anything here; it is neither strange nor cut
abbrev pub TellsOfHonest : ChannelName → List Entry → List Numbered → List Entry → List Numbered → SyncEnd → Type 0
TellsOfHonest c here told there got (Done took gave) = AreUnited c here (first_place told) (last_place told) there (first_place got) (last_place got)
TellsOfHonest c here told there got (Strange request) = ⊥
TellsOfHonest c here told there got Cut = ⊥
TellsOfHonest c here told there got (Local why) = IsOfLimit why
TellsOfHonest c here told there got end = Unit {0}
