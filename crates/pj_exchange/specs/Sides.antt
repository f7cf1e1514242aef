-- One side of an exchange: a pass of a journal.
use Rattle.std.specs.Prelude.{◌≡◌, ◌≢◌, ◌⊎◌, ℕ, ◌<◌, ◌≤◌, List, [], ◌∷◌, ◌++◌, length, take, Some, None}
use Rattle.pj_change.specs.declared.change.Record.{Record}
use Rattle.pj_change.specs.Union.{union}
use Rattle.pj_machine.specs.declared.channel_name.ChannelName.{ChannelName}
use Rattle.pj_machine.specs.declared.command.Command.{Command}
use Rattle.pj_machine.specs.declared.journal.Entry.{Entry}
use Rattle.pj_machine.specs.declared.limits.Limits.{Limits}
use Rattle.pj_machine.specs.declared.reply.Numbered.{Numbered}
use Rattle.pj_machine.specs.declared.reply.Numbered.TheVariants.{At, NoMemory}
use Rattle.pj_machine.specs.Legal.{IsLegal}
use Rattle.pj_machine.specs.Replay.{IsReplay}
use Rattle.pj_machine.specs.Step.{Steps}
use Rattle.pj_machine.specs.State.{State, list_of}
use Rattle.pj_session.specs.Spoke.{Spoke, place_after}

-- the place of the first reply that has one
abbrev pub first_place : List Numbered → ℕ
first_place [] = 0
first_place (At place reply ∷ rs) = place
first_place (NoMemory ∷ rs) = first_place rs

-- the place of the last one, where `low` is the greatest so far
abbrev pub last_place_from : ℕ → List Numbered → ℕ
last_place_from low [] = low
last_place_from low (r ∷ rs) = last_place_from (place_after low r) rs

-- the place of the last reply that has one
abbrev pub last_place : List Numbered → ℕ
last_place rs = last_place_from 0 rs

-- No entry of another pass between these places changes the list of the channel, or makes the channel or takes it away.
abbrev pub IsQuiet : ChannelName → ℕ → ℕ → ℕ → List Entry → Type 0
IsQuiet c pass low high journal =
    (before : List Entry) (e : Entry) (after : List Entry) → journal ≡ before ++ e ∷ after →
    low ≤ length before → length before < high → e.pass ≢ pass →
    (s t : State) → IsReplay before s → Steps s e.write t → list_of t c ≡ list_of s c

-- the pass spoke in a legal journal, and no other pass changed the channel meanwhile
pub record IsSide (limits : Limits) (journal : List Entry) (pass : ℕ) (c : ChannelName) (xs : List Command) (rs : List Numbered) : Type 0 where
  pub legal : IsLegal limits journal
  pub spoke : Spoke limits journal pass xs rs
  pub quiet : IsQuiet c pass (first_place rs) (last_place rs) journal

-- after so many entries this holds of the state
abbrev pub AtPlace : List Entry → ℕ → (State → Type 0) → Type 0
AtPlace journal place P = (s : State) × IsReplay (take place journal) s × P s

-- after so many entries the channel has this list; one that is not there has none
abbrev pub HasListAt : List Entry → ℕ → ChannelName → List Record → Type 0
HasListAt journal place c list = AtPlace journal place (λ s. (list_of s c ≡ Some list) ⊎ ((list_of s c ≡ None) × (list ≡ [])))

-- At the later place of its journal each list is the union of both: what it had at the earlier one, and then what it lacks of the other, in its order.
pub record AreUnited (c : ChannelName) (here : List Entry) (from to : ℕ) (there : List Entry) (low high : ℕ) : Type 0 where
  pub mine : List Record
  pub theirs : List Record
  pub mine_are : HasListAt here from c mine
  pub theirs_are : HasListAt there low c theirs
  pub here_is : HasListAt here to c (union mine theirs)
  pub there_is : HasListAt there high c (union theirs mine)
