-- What is left is one of the images.
use Rattle.std.proofs.Common.{◌∙◌, subst, sym, ap, if◌then◌else◌}
use Rattle.pj_disk.specs.MemDisk.{MayLeave}
use Rattle.pj_disk.proofs.Stretches.{left_by_crash}
use Rattle.pj_disk.proofs.mem_disk.MemDisk.crash.Goals as goal

pub returns-clause-image : goal.returns-clause-image
returns-clause-image c =
    let is = c.left.ensures ∙ ap (λ disk. if c.args.synced then disk.stretch.synced else disk.bytes) c.self.view_is in
    subst (λ file. MayLeave c.args.self file) (sym is) (left_by_crash c.args.self c.args.synced)
