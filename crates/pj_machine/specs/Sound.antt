-- What holds of the state that a legal journal leads to.
use Rattle.std.specs.Prelude.{◌≡◌, ◌≢◌, Contains, Some, AllPairs}
use Rattle.pj_change.specs.declared.change.Record.{Record}
use Rattle.pj_change.specs.Lawful.{IsLawful, record_of}
use Rattle.pj_change.specs.Sets.{HaveOneText}
use Rattle.pj_machine.specs.State.{State, Channel}

-- the channels are lawful lists of stored changes, and no name stands twice
pub record IsSound (s : State) : Type 0 where
  -- the lists of the channels are lawful
  pub lawful : (c : Channel) → Contains s.channels c → IsLawful c.list
  -- and their changes are in the store under the names of their texts
  pub stored : (c : Channel) → Contains s.channels c → (r : Record) → Contains c.list r → record_of s.store r.name ≡ Some r
  -- the store has one text for each name
  pub one_text : HaveOneText s.store
  -- no name stands twice in the store
  pub once : AllPairs (λ r q. r.name ≢ q.name) s.store
  -- nor among the channels
  pub distinct : AllPairs (λ c d. c.name ≢ d.name) s.channels
