-- What `serve` does.
use Rattle.std.specs.Prelude.{◌≡◌, ◌⊎◌, ℕ, true, List, map, All, None}
use Rattle.pj_io.specs.Told.{Where}
use Rattle.pj_io.specs.Door.{NewDoor}
use Rattle.pj_machine.specs.declared.limits.Limits.{Limits}
use Rattle.pj_serve.specs.declared.status.Status.TheVariants.{Done, Memory}
use Rattle.pj_serve.specs.declared.finish.Finish.{Finish}
use Rattle.pj_serve.specs.Complete.{IsComplete, NoOfficeFault, HasNoFault}
use Rattle.pj_io.specs.Meanings.{Offices, Doors}
use Rattle.pj_serve.specs.Opening.{LacksDoors}
use Rattle.pj_serve.specs.Outside.{Outside}
use Rattle.pj_serve.specs.Sessions.{HasStopped}
use Rattle.pj_serve.specs.Shares.{shares}
use Rattle.pj_serve.specs.Shifts.{AreServed}
use Rattle.pj_serve.specs.Status.{exit_status, first_end, status_after}

-- a new door for each share, with the sessions that the office tells
pub record AreDoors {O V : Type 0} (offices : Offices O) (doors : Doors V) (office : O) (address its_shares : List ℕ) (opened : List V) : Type 0 where
  pub shares_are : map doors.left opened ≡ its_shares
  pub made : All (NewDoor (offices.tells office) doors) opened
  pub sessions : Where (offices.tells office) (map doors.coming opened ≡ (offices.contents office).sessions address its_shares)

module _ {O S D V : Type 0} (outside : Outside O S D V) (limits : Limits) (old new : O) (result : Finish S D V) (address : List ℕ) (sessions workers : ℕ) where
  -- a door was opened for each worker, and the workers served what came
  pub record HaveServed : Type 0 where
    pub opened : List V
    pub are_doors : AreDoors outside.offices outside.doors old address (shares sessions workers) opened
    pub served : AreServed outside.doors outside.streams limits result.journal opened result.doors.items result.kept.items result.ends
    pub status : result.status ≡ exit_status (status_after (first_end result.ends) true)
    pub input : result.input ≡ None
    pub out : result.out ≡ None

  -- `no_writing`: no opening for writing failed; `ends_well`: where no count rose, and the bytes of each session are all requests, all
  -- was done, or memory was wanted
  pub record DoesServe : Type 0 where
    pub outcome : HaveServed ⊎ HasStopped (LacksDoors outside.offices old new) result
    pub no_writing : outside.offices.write_faults new ≡ outside.offices.write_faults old
    pub ends_well : Where (outside.offices.tells old)
        (All (All (IsComplete limits.session)) ((outside.offices.contents old).sessions address (shares sessions workers))
        → NoOfficeFault outside.offices old new → All (HasNoFault outside.streams) result.kept.items
        → All (λ door. outside.doors.faults door ≡ 0) result.doors.items
        → (result.status ≡ exit_status Done) ⊎ (result.status ≡ exit_status Memory))
