-- The entry stands behind what was staged, and the gate before it is opened unless it is the first one.
use Rattle.std.proofs.Common.{◌≡◌, ◌+◌, ◌<◌, [], ◌∷◌, ◌++◌, IsTrue, sym, subst, arith}
use Rattle.pj_journal.specs.Group.{Stages}
use Rattle.pj_journal.proofs.Groups.{stages_first, stages_next}
use Rattle.pj_journal.proofs.Prefixes.{keeps_then}
use Rattle.pj_journal.proofs.staging.stage_at.Goals as goal

pub returns-in_err-write_on-clause-keeps : goal.returns-in_err-write_on-clause-keeps
returns-in_err-write_on-clause-keeps g c = λ told before.
    let disk = g.K.Disk in
    let there = subst IsTrue (sym c.write_entry.ensures.told) told in
    let some : c.args.place < c.args.end = c.if-place-end.true in
    keeps_then disk.seen disk.may_leave disk.moment disk.left_since (c.args.place + 1) c.args.disk.now c.write_entry.new.disk c.write_on.new.disk
    (c.write_entry.ensures.keeps told (c.args.place + 1) (omega arith) before) (c.write_on.ensures.keeps there (c.args.place + 1) (omega arith))

pub returns-in_ok-write_on-clause-keeps : goal.returns-in_ok-write_on-clause-keeps
returns-in_ok-write_on-clause-keeps g c = λ told before.
    let disk = g.K.Disk in
    let there = subst IsTrue (sym c.write_entry.ensures.told) told in
    let some : c.args.place < c.args.end = c.if-place-end.true in
    keeps_then disk.seen disk.may_leave disk.moment disk.left_since (c.args.place + 1) c.args.disk.now c.write_entry.new.disk c.write_on.new.disk
    (c.write_entry.ensures.keeps told (c.args.place + 1) (omega arith) before) (c.write_on.ensures.keeps there (c.args.place + 1) (omega arith))

pub returns-in_ok-write_on-clause-staged : goal.returns-in_ok-write_on-clause-staged
returns-in_ok-write_on-clause-staged g c = λ told group stages.
    let disk = g.K.Disk in
    let string = c.args.head.now ++ c.args.body.now ++ c.args.tail.now in
    let there = subst IsTrue (sym c.write_entry.ensures.told) told in
    subst (λ p. Stages (disk.seen c.write_on.new.disk) c.args.place p (group ++ string ∷ [])) (sym c.in_ok-next.ensures.end)
    (stages_next (disk.seen c.args.disk.now) c.args.place c.args.end group stages string c.requires.storable
    (disk.seen c.write_entry.new.disk) (disk.seen c.write_on.new.disk) c.if-place-end.true (c.in_ok-next.ensures.seen told)
    (c.in_ok-write_on.ensures.seen there))

pub returns-else-place-end-clause-staged : goal.returns-else-place-end-clause-staged
returns-else-place-end-clause-staged g c = λ told group stages.
    let disk = g.K.Disk in
    let string = c.args.head.now ++ c.args.body.now ++ c.args.tail.now in
    let none : c.args.place ≡ c.args.end = omega (arith, c.if-place-end.false, c.requires.order) in
    subst (λ p. Stages (disk.seen c.write_entry.new.disk) c.args.place p (group ++ string ∷ [])) (sym c.in_ok-next.ensures.end)
    (stages_first (disk.seen c.args.disk.now) c.args.place c.args.end group stages string c.requires.storable
    (disk.seen c.write_entry.new.disk) none (c.in_ok-next.ensures.seen told))
