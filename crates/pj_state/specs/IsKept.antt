-- What a repository keeps beside its journal: the state that the journal leads to.
use Rattle.std.specs.Prelude.{◌≡◌, ℕ, ◌≤◌, List, length, Option}
use Rattle.std.specs.Option.{option_map}
use Rattle.std.specs.declared.sync.Arc.{Arc}
use Rattle.std.specs.BTreeMap.{BTreeMap, get}
use Rattle.pj_name.specs.declared.name.Name.{Name}
use Rattle.pj_change.specs.declared.change.Record.{Record}
use Rattle.pj_change.specs.Lawful.{record_of}
use Rattle.pj_machine.specs.declared.channel_name.ChannelName.{ChannelName}
use Rattle.pj_machine.specs.declared.journal.Entry.{Entry}
use Rattle.pj_machine.specs.declared.limits.Limits.{Limits}
use Rattle.pj_machine.specs.declared.listings.ChannelCount.{ChannelCount}
use Rattle.pj_machine.specs.Answer.{bytes_held}
use Rattle.pj_machine.specs.ChannelName.{channel_cmp}
use Rattle.pj_machine.specs.Legal.{IsLegal}
use Rattle.pj_machine.specs.Replay.{IsReplay}
use Rattle.pj_machine.specs.State.{State, list_of}
use Rattle.pj_state.specs.declared.standing.Standing.{Standing}
use Rattle.pj_state.specs.LastEntry.{last_of}
use Rattle.pj_state.specs.Records.{record_in}

-- the store is that of the state, and its texts have no more bytes than they may
pub record IsStore {Z : Type 0} (limits : Limits) (s : State) (pairs : List (Name × Arc Record Z)) (bytes : ℕ) : Type 0 where
  pub records : (name : Name) → record_in pairs name ≡ record_of s.store name
  pub count : length pairs ≡ length s.store
  pub bytes_are : bytes ≡ bytes_held s
  pub few : bytes ≤ limits.bytes

-- the list of a channel, and the number of its last entry
abbrev pub standing : List Record → ℕ → Standing
standing list last = record { channel = list; last = last }

-- the channel of this name after the journal, which leads to the state s
abbrev pub standing_of : State → List Entry → ChannelName → Option Standing
standing_of s journal name = option_map (λ list. standing list (last_of name journal)) (list_of s name)

-- a channel with how many changes it has
abbrev pub count : ChannelName × Standing → ChannelCount
count e = record { name = e.0; changes = length e.1.channel }

-- the channels are those of the state, each with the number of its last entry
abbrev pub AreChannels : State → List Entry → BTreeMap ChannelName Standing → Type 0
AreChannels s journal channels = (name : ChannelName) → get channel_cmp channels name ≡ standing_of s journal name

-- the journal is legal, and the store and the channels are those of its replay
pub record IsKept {Z : Type 0} (limits : Limits) (journal : List Entry) (pairs : List (Name × Arc Record Z)) (bytes : ℕ) (channels : BTreeMap ChannelName Standing) : Type 0 where
  pub legal : IsLegal limits journal
  pub state : State
  pub replayed : IsReplay journal state
  pub store : IsStore limits state pairs bytes
  pub each : AreChannels state journal channels
