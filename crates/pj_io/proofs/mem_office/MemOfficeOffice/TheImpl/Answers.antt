-- What `doors` ensures of doors in memory says what the trait says of doors.
use Rattle.std.proofs.Common.{rules, refl, true}
use Rattle.pj_io.specs.Door.{NewDoor}
use Rattle.pj_io.specs.Plan.{door_by}
use Rattle.pj_io.proofs.Opened.{opened_lefts, opened_comings, opened_all, if_ok}
use Rattle.pj_io.proofs.mem_office.MemOfficeOffice.TheImpl.Goals as goal

pub doors-tells : goal.doors-tells
doors-tells _ _ _ c =
    let make = door_by c.args.self.now.plan in
    record {
      shares = if_ok c.result c.ensures.made (λ doors made. opened_lefts make (λ door. door.coming) (λ part. refl) doors.items _ _ made);
      made = if_ok c.result c.ensures.made
          (λ doors made. opened_all make (NewDoor true _) doors.items _ (λ part. record { told = λ _. refl; none_given = refl; no_fault = refl }) made);
      sessions = λ _. if_ok c.result c.ensures.made (λ doors made. opened_comings make (λ door. door.coming) (λ part. refl) doors.items _ _ made);
      told = search rules;
      contents = search rules;
      cause = search rules;
      write_faults = search rules;
    }
