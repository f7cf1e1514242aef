-- What the three stages of a large run leave.
use Rattle.std.specs.Prelude.{◌≡◌, ℕ, ◌+◌, ◌<◌, ◌≤◌, true, List, [], ◌∷◌, ◌++◌, length, map, All, Contains}
use Rattle.pj_machine.specs.declared.channel_name.ChannelName.{ChannelName}
use Rattle.pj_machine.specs.declared.journal.Entry.{Entry}
use Rattle.pj_machine.specs.declared.limits.Limits.{Limits}
use Rattle.pj_machine.specs.Call.{entries_of}
use Rattle.pj_machine.specs.Entries.{commands}
use Rattle.pj_machine.specs.Legal.{IsLegal}
use Rattle.pj_session.specs.declared.end.End.TheVariants.{Done}
use Rattle.pj_gen.specs.Changes.{eight, line_name}
use Rattle.pj_gen.specs.Requests.{main, opening_requests, session_requests}
use Rattle.pj_load.specs.declared.seeing.Printed.{Printed}
use Rattle.pj_load.specs.declared.stages.Played.{Played}
use Rattle.pj_load.specs.Load.{AreEnds, HasWrites}
use Rattle.pj_load.specs.Prints.{AreFoundAt}

-- the channels, in the order of their prints
abbrev pub channels : List ChannelName
channels = map line_name eight ++ main ∷ []

-- The journal of a large run: the entries of the prelude, and then those of the sessions.
pub record IsLoaded (number sessions n : ℕ) (prelude rest : List Entry) : Type 0 where
  pub prelude_is : commands prelude ≡ opening_requests
  pub sessions_are : (s : ℕ) → s < sessions → commands (entries_of (s + 2) rest) ≡ session_requests number sessions s n
  pub passes_are : (e : Entry) → Contains rest e → (2 ≤ e.pass) × (e.pass < sessions + 2)

-- Each pass has entered its script, the prelude's before the others. Where all channels were printed at the end of the journal,
-- the prints are what is found there.
pub record HasRun (limits : Limits) (number sessions n : ℕ) (journal : List Entry) (prints : List Printed) : Type 0 where
  pub prelude : List Entry
  pub rest : List Entry
  pub whole : journal ≡ prelude ++ rest
  pub loaded : IsLoaded number sessions n prelude rest
  pub opening : HasWrites journal 1 opening_requests
  pub each : (s : ℕ) → s < sessions → HasWrites journal (s + 2) (session_requests number sessions s n)
  pub closing : HasWrites journal (sessions + 2) []
  pub found_are : length prints ≡ length channels → All (λ p. p.place ≡ length journal) prints → AreFoundAt limits journal channels prints

-- what the stages leave, over the scripts for the changes 1 to n
pub record HasPlayed (limits : Limits) (number sessions n : ℕ) (played : Played) : Type 0 where
  pub legal : IsLegal limits played.journal
  pub of_sessions : All (λ e. (0 < e.pass) × (e.pass ≤ sessions + 2)) played.journal
  pub ends : AreEnds sessions played.ends
  pub run : played.entered ≡ true → All (λ e. e.end ≡ Done) played.ends → HasRun limits number sessions n played.journal played.prints.items
