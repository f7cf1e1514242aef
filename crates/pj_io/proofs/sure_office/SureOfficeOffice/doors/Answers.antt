-- What the plan says of its doors says what the trait says of doors.
use Rattle.std.proofs.Common.{refl, true}
use Rattle.pj_io.specs.Door.{NewDoor}
use Rattle.pj_io.specs.SureDoor.{new_sure_door}
use Rattle.pj_io.proofs.Opened.{opened_lefts, opened_comings, opened_all}
use Rattle.pj_io.proofs.sure_office.SureOfficeOffice.doors.Goals as goal

pub returns-clause-shares : goal.returns-clause-shares
returns-clause-shares c = opened_lefts new_sure_door (λ door. door.coming) (λ part. refl) _ _ _ c.in_ok-sure_doors.ensures

pub returns-clause-made : goal.returns-clause-made
returns-clause-made c =
    opened_all new_sure_door (NewDoor true _) _ _ (λ part. record { told = λ _. refl; none_given = refl; no_fault = refl }) c.in_ok-sure_doors.ensures

pub returns-clause-sessions : goal.returns-clause-sessions
returns-clause-sessions c = λ _. rw (← c.self.view_is) (opened_comings new_sure_door (λ door. door.coming) (λ part. refl) _ _ _ c.in_ok-sure_doors.ensures)
