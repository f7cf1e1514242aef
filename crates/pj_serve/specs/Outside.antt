-- The meanings of what a call works on, which a generic contract hands to the definitions.
use Rattle.std.specs.Prelude.{◌≡◌, ◌≤◌}
use Rattle.pj_io.specs.Told.{Where}
use Rattle.pj_io.specs.Meanings.{Offices, Streams, Doors}

-- all that the top call works on
pub record Outside (O S D V : Type 0) : Type 0 where
  pub offices : Offices O
  pub streams : Streams S D
  pub doors : Doors V

-- what the office has to give stays, and its counts do not fall
pub record KeepsOffice {O : Type 0} (offices : Offices O) (old new : O) : Type 0 where
  pub same_telling : offices.tells new ≡ offices.tells old
  pub same_contents : Where (offices.tells old) (offices.contents new ≡ offices.contents old)
  pub read_never_falls : offices.read_faults old ≤ offices.read_faults new
  pub write_never_falls : offices.write_faults old ≤ offices.write_faults new
