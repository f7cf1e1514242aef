-- A write behind the first bytes keeps them.
use Rattle.std.proofs.Common.{length}
use Rattle.pj_journal.proofs.Prefixes.{one_write}
use Rattle.pj_journal.proofs.staging.write_on.Goals as goal

pub returns-in_err-write_at-clause-keeps : goal.returns-in_err-write_at-clause-keeps
returns-in_err-write_at-clause-keeps g c = λ told n behind before.
    let disk = g.K.Disk in
    one_write disk.seen disk.may_leave disk.moment disk.left_since n g.met.K.Disk.reads_an_image g.met.K.Disk.only_now
    c.args.disk.now c.write_at.new.self c.args.at (length c.args.bytes.now) behind (c.requires told)
    (c.write_at.ensures.images told) (c.write_at.ensures.time told) before

pub returns-clause-keeps : goal.returns-clause-keeps
returns-clause-keeps g c = λ told n behind before.
    let disk = g.K.Disk in
    one_write disk.seen disk.may_leave disk.moment disk.left_since n g.met.K.Disk.reads_an_image g.met.K.Disk.only_now
    c.args.disk.now c.write_at.new.self c.args.at (length c.args.bytes.now) behind (c.requires told)
    (c.write_at.ensures.images told) (c.write_at.ensures.time told) before
