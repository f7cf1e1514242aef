use Rattle.std.proofs.Common.{◌≡◌, refl, true, map, [], IfOk, subst}
use Rattle.std.specs.Prelude.{unwrap_or}
use Rattle.pj_io.specs.Door.{NewDoor}
use Rattle.pj_io.specs.Plan.{door_by, named}
use Rattle.pj_io.specs.Sessions.{shared_sessions}
use Rattle.pj_io.proofs.Opened.{opened_lefts, opened_comings, opened_all, if_ok}
use Rattle.pj_bureau.specs.MemBureau.{BureauInMemory}
use Rattle.pj_bureau.proofs.mem_bureau.MemBureauOffice.doors.Goals as goal

pub returns-clause-shares : goal.returns-clause-shares
returns-clause-shares c =
    let make = door_by c.self.inside.office.plan in
    if_ok c.doors.result c.doors.ensures.made (λ doors made. opened_lefts make (λ door. door.coming) (λ part. refl) doors.items _ _ made)

pub returns-clause-made : goal.returns-clause-made
returns-clause-made c =
    let make = door_by c.self.inside.office.plan in
    if_ok c.doors.result c.doors.ensures.made
    (λ doors made. opened_all make (NewDoor true _) doors.items _ (λ part. record { told = λ _. refl; none_given = refl; no_fault = refl }) made)

pub returns-clause-sessions : goal.returns-clause-sessions
returns-clause-sessions c =
    let P : BureauInMemory → Type 0 = λ b. IfOk c.doors.result (λ doors. doors.items ≡ map (door_by b.office.plan)
    (shared_sessions (unwrap_or (named c.args.address.now b.office.plan.sessions) []) c.args.shares.now)) in
    let given : P c.args.self.now = subst P c.self.view_is c.doors.ensures.made in
    let make = door_by c.args.self.now.office.plan in
    λ _. if_ok c.doors.result given (λ doors made. opened_comings make (λ door. door.coming) (λ part. refl) doors.items _ _ made)
