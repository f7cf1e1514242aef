-- In the middle of the write the file is torn, and in the middle of the sync too.
use Rattle.std.proofs.Common.{List, ℕ, IsTrue, length, subst, sym}
use Rattle.pj_disk.specs.Image.{Torn}
use Rattle.pj_disk.proofs.Ranges.{torn_same}
use Rattle.pj_journal.proofs.Moments.{one_call, and_then}
use Rattle.pj_journal.proofs.steps.write_and_sync.Goals as goal

pub returns-clause-moments : goal.returns-clause-moments
returns-clause-moments g c = λ told.
    let disk = g.K.Disk in
    let old = c.args.disk.now in
    let mid = c.write_at.new.self in
    let new = c.sync.new.self in
    let P : List ℕ → Type 0 = Torn c.args.at (length c.args.bytes.now) (disk.seen old) in
    let still = subst IsTrue (sym c.write_at.ensures.told) told in
    let before : (f : List ℕ) → disk.left_since old (disk.moment old) f → P f = λ f left.
    subst P (sym (c.requires.durable told f (g.met.K.Disk.only_now old f left))) (torn_same _ _ (disk.seen old)) in
    let now : (f : List ℕ) → disk.may_leave mid f → P f = λ f is.
    let from = c.write_at.ensures.images told f is in
    subst (λ d. Torn c.args.at (length c.args.bytes.now) d f) (c.requires.durable told from.0 from.1) from.2 in
    let writing = one_call disk.moment disk.left_since old mid P (disk.may_leave mid) before (c.write_at.ensures.time told) now in
    let syncing = one_call disk.moment disk.left_since mid new P (disk.may_leave new)
    (λ f left. now f (g.met.K.Disk.only_now mid f left)) (c.sync.ensures.time still) (λ f is. now f (c.sync.ensures.images still f is)) in
    and_then disk.moment disk.left_since old mid new P P writing syncing (λ f is. is)
