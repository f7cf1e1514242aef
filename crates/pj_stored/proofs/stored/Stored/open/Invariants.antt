-- The strings so far were accepted, and the disk was only read.
use Rattle.std.proofs.Common.{◌≡◌, ◌-◌, ◌^◌, ◌<◌, false}
use Rattle.pj_stored.specs.Reading.{IsRead}
use Rattle.pj_stored.proofs.Strings.{SoFar}
use Rattle.pj_stored.proofs.stored.Stored.open.Given as goal

abbrev pub invariant-loop-string : goal.invariant-loop-string
invariant-loop-string g l = record {
  so_far : SoFar (g.P.Replier.limits l.replier) (g.P.Replier.view l.initial.restore) (g.P.Replier.view l.restore)
      (g.K.Disk.tells l.initial.log.disk) (g.K.Disk.seen l.initial.log.disk) l.log.place l.entry;
  read : IsRead g.K.Disk.tells g.K.Disk.seen g.K.Disk.may_leave g.K.Disk.moment g.K.Disk.left_since g.K.Disk.faults l.initial.log.disk l.log.disk;
  sound : l.log.failed ≡ false;
  bound : l.log.place < 2 ^ 63;
}

abbrev pub decreases-loop-string : goal.decreases-loop-string
decreases-loop-string g l = 2 ^ 63 - l.log.place
