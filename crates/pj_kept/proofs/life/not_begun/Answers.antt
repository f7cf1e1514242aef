use Rattle.std.proofs.Common.{◌∙◌, refl}
use Rattle.pj_keep.specs.Disks.{Disks}
use Rattle.pj_kept.proofs.Lives.{nothing_done}
use Rattle.pj_kept.proofs.life.not_begun.Goals as goal

pub returns : goal.returns
returns g c =
    let disks : Disks g.row.K.Denot = record {
      tells = g.K.Disk.tells;
      seen = g.K.Disk.seen;
      may_leave = g.K.Disk.may_leave;
      moment = g.K.Disk.moment;
      left_since = g.K.Disk.left_since;
      faults = g.K.Disk.faults;
    } in
    (nothing_done disks c.args.limits c.args.store c.of.result g.met.K.Disk.only_now (c.of.ensures ∙ c.new.ensures.items), refl, refl)
