-- The parts are written one behind another: they are one frame, and all stand behind the gate.
use Rattle.std.proofs.Common.{◌≡◌, ◌∙◌, ◌+◌, ◌≤◌, [], ◌∷◌, ◌++◌, IsTrue, length, sym, ap, subst, arith, length-append}
use Rattle.std.specs.Int.{w64, to_be_bytes}
use Rattle.pj_disk.specs.Image.{overwritten}
use Rattle.pj_journal.proofs.Groups.{write_joined, framed_in_parts}
use Rattle.pj_journal.proofs.Prefixes.{keeps_then}
use Rattle.pj_journal.proofs.staging.write_entry.Goals as goal

pub returns-in_err-middle-clause-keeps : goal.returns-in_err-middle-clause-keeps
returns-in_err-middle-clause-keeps g c = λ told n behind before.
    let disk = g.K.Disk in
    let old = c.args.disk.now in
    let told_1 = subst IsTrue (sym c.write_on.ensures.told) told in
    let keeps_1 = c.write_on.ensures.keeps told n behind before in
    let behind_2 : n ≤ c.in_ok-text.text = omega (arith, behind, c.in_ok-text.ensures.end) in
    let keeps_2 = keeps_then disk.seen disk.may_leave disk.moment disk.left_since n old c.write_on.new.disk c.write_on-2.new.disk keeps_1
    (c.write_on-2.ensures.keeps told_1 n behind_2) in
    keeps_2

pub returns-in_err-last-clause-keeps : goal.returns-in_err-last-clause-keeps
returns-in_err-last-clause-keeps g c = λ told n behind before.
    let disk = g.K.Disk in
    let old = c.args.disk.now in
    let told_1 = subst IsTrue (sym c.write_on.ensures.told) told in
    let told_2 = subst IsTrue (sym c.write_on-2.ensures.told) told_1 in
    let keeps_1 = c.write_on.ensures.keeps told n behind before in
    let behind_2 : n ≤ c.in_ok-text.text = omega (arith, behind, c.in_ok-text.ensures.end) in
    let keeps_2 = keeps_then disk.seen disk.may_leave disk.moment disk.left_since n old c.write_on.new.disk c.write_on-2.new.disk keeps_1
    (c.write_on-2.ensures.keeps told_1 n behind_2) in
    let behind_3 : n ≤ c.in_ok-middle.middle = omega (arith, behind, c.in_ok-text.ensures.end, c.in_ok-middle.ensures.end) in
    let keeps_3 = keeps_then disk.seen disk.may_leave disk.moment disk.left_since n old c.write_on-2.new.disk c.write_on-3.new.disk keeps_2
    (c.write_on-3.ensures.keeps told_2 n behind_3) in
    keeps_3

pub returns-in_err-end-clause-keeps : goal.returns-in_err-end-clause-keeps
returns-in_err-end-clause-keeps g c = λ told n behind before.
    let disk = g.K.Disk in
    let old = c.args.disk.now in
    let told_1 = subst IsTrue (sym c.write_on.ensures.told) told in
    let told_2 = subst IsTrue (sym c.write_on-2.ensures.told) told_1 in
    let told_3 = subst IsTrue (sym c.write_on-3.ensures.told) told_2 in
    let keeps_1 = c.write_on.ensures.keeps told n behind before in
    let behind_2 : n ≤ c.in_ok-text.text = omega (arith, behind, c.in_ok-text.ensures.end) in
    let keeps_2 = keeps_then disk.seen disk.may_leave disk.moment disk.left_since n old c.write_on.new.disk c.write_on-2.new.disk keeps_1
    (c.write_on-2.ensures.keeps told_1 n behind_2) in
    let behind_3 : n ≤ c.in_ok-middle.middle = omega (arith, behind, c.in_ok-text.ensures.end, c.in_ok-middle.ensures.end) in
    let keeps_3 = keeps_then disk.seen disk.may_leave disk.moment disk.left_since n old c.write_on-2.new.disk c.write_on-3.new.disk keeps_2
    (c.write_on-3.ensures.keeps told_2 n behind_3) in
    let behind_4 : n ≤ c.in_ok-last.last = omega (arith, behind, c.in_ok-text.ensures.end, c.in_ok-middle.ensures.end, c.in_ok-last.ensures.end) in
    let keeps_4 = keeps_then disk.seen disk.may_leave disk.moment disk.left_since n old c.write_on-3.new.disk c.write_on-4.new.disk keeps_3
    (c.write_on-4.ensures.keeps told_3 n behind_4) in
    keeps_4

pub returns-in_err-write_on-clause-keeps : goal.returns-in_err-write_on-clause-keeps
returns-in_err-write_on-clause-keeps g c = λ told n behind before.
    let disk = g.K.Disk in
    let old = c.args.disk.now in
    let told_1 = subst IsTrue (sym c.write_on.ensures.told) told in
    let told_2 = subst IsTrue (sym c.write_on-2.ensures.told) told_1 in
    let told_3 = subst IsTrue (sym c.write_on-3.ensures.told) told_2 in
    let told_4 = subst IsTrue (sym c.write_on-4.ensures.told) told_3 in
    let keeps_1 = c.write_on.ensures.keeps told n behind before in
    let behind_2 : n ≤ c.in_ok-text.text = omega (arith, behind, c.in_ok-text.ensures.end) in
    let keeps_2 = keeps_then disk.seen disk.may_leave disk.moment disk.left_since n old c.write_on.new.disk c.write_on-2.new.disk keeps_1
    (c.write_on-2.ensures.keeps told_1 n behind_2) in
    let behind_3 : n ≤ c.in_ok-middle.middle = omega (arith, behind, c.in_ok-text.ensures.end, c.in_ok-middle.ensures.end) in
    let keeps_3 = keeps_then disk.seen disk.may_leave disk.moment disk.left_since n old c.write_on-2.new.disk c.write_on-3.new.disk keeps_2
    (c.write_on-3.ensures.keeps told_2 n behind_3) in
    let behind_4 : n ≤ c.in_ok-last.last = omega (arith, behind, c.in_ok-text.ensures.end, c.in_ok-middle.ensures.end, c.in_ok-last.ensures.end) in
    let keeps_4 = keeps_then disk.seen disk.may_leave disk.moment disk.left_since n old c.write_on-3.new.disk c.write_on-4.new.disk keeps_3
    (c.write_on-4.ensures.keeps told_3 n behind_4) in
    let behind_5 : n ≤ c.in_ok-end.end =
    omega (arith, behind, c.in_ok-text.ensures.end, c.in_ok-middle.ensures.end, c.in_ok-last.ensures.end, c.in_ok-end.ensures.end) in
    let keeps_5 = keeps_then disk.seen disk.may_leave disk.moment disk.left_since n old c.write_on-4.new.disk c.write_on-5.new.disk keeps_4
    (c.write_on-5.ensures.keeps told_4 n behind_5) in
    keeps_5

pub returns-clause-keeps : goal.returns-clause-keeps
returns-clause-keeps g c = λ told n behind before.
    let disk = g.K.Disk in
    let old = c.args.disk.now in
    let told_1 = subst IsTrue (sym c.write_on.ensures.told) told in
    let told_2 = subst IsTrue (sym c.write_on-2.ensures.told) told_1 in
    let told_3 = subst IsTrue (sym c.write_on-3.ensures.told) told_2 in
    let told_4 = subst IsTrue (sym c.write_on-4.ensures.told) told_3 in
    let keeps_1 = c.write_on.ensures.keeps told n behind before in
    let behind_2 : n ≤ c.in_ok-text.text = omega (arith, behind, c.in_ok-text.ensures.end) in
    let keeps_2 = keeps_then disk.seen disk.may_leave disk.moment disk.left_since n old c.write_on.new.disk c.write_on-2.new.disk keeps_1
    (c.write_on-2.ensures.keeps told_1 n behind_2) in
    let behind_3 : n ≤ c.in_ok-middle.middle = omega (arith, behind, c.in_ok-text.ensures.end, c.in_ok-middle.ensures.end) in
    let keeps_3 = keeps_then disk.seen disk.may_leave disk.moment disk.left_since n old c.write_on-2.new.disk c.write_on-3.new.disk keeps_2
    (c.write_on-3.ensures.keeps told_2 n behind_3) in
    let behind_4 : n ≤ c.in_ok-last.last = omega (arith, behind, c.in_ok-text.ensures.end, c.in_ok-middle.ensures.end, c.in_ok-last.ensures.end) in
    let keeps_4 = keeps_then disk.seen disk.may_leave disk.moment disk.left_since n old c.write_on-3.new.disk c.write_on-4.new.disk keeps_3
    (c.write_on-4.ensures.keeps told_3 n behind_4) in
    let behind_5 : n ≤ c.in_ok-end.end =
    omega (arith, behind, c.in_ok-text.ensures.end, c.in_ok-middle.ensures.end, c.in_ok-last.ensures.end, c.in_ok-end.ensures.end) in
    let keeps_5 = keeps_then disk.seen disk.may_leave disk.moment disk.left_since n old c.write_on-4.new.disk c.write_on-5.new.disk keeps_4
    (c.write_on-5.ensures.keeps told_4 n behind_5) in
    keeps_5

pub returns-clause-seen : goal.returns-clause-seen
returns-clause-seen g c = λ told.
    let disk = g.K.Disk in
    let file = disk.seen c.args.disk.now in
    let at = c.args.gate + 1 in
    let head = c.args.head.now in
    let body = c.args.body.now in
    let tail = c.args.tail.now in
    let told_1 = subst IsTrue (sym c.write_on.ensures.told) told in
    let told_2 = subst IsTrue (sym c.write_on-2.ensures.told) told_1 in
    let told_3 = subst IsTrue (sym c.write_on-3.ensures.told) told_2 in
    let told_4 = subst IsTrue (sym c.write_on-4.ensures.told) told_3 in
    let fits : at ≤ length file = c.requires.within told in
    let size : c.to_be_bytes.result ≡ to_be_bytes w64 (length (head ++ body ++ tail)) =
    c.to_be_bytes.ensures ∙ ap (to_be_bytes w64) (omega (arith, length-append (head ++ body) tail, length-append head body)) in
    let one = c.in_ok-text.ensures.seen told ∙ ap (overwritten file at) size in
    let behind_size = c.in_ok-text.ensures.end ∙ ap (λ l. at + length l) size in
    let bytes = to_be_bytes w64 (length (head ++ body ++ tail)) in
    let two = write_joined file at c.in_ok-text.text bytes head (disk.seen c.write_on.new.disk)
    (disk.seen c.write_on-2.new.disk) fits one behind_size (c.in_ok-middle.ensures.seen told_1) in
    let end_2 : c.in_ok-middle.middle ≡ at + length (bytes ++ head) = omega (arith, behind_size, c.in_ok-middle.ensures.end, length-append bytes head) in
    let three = write_joined file at c.in_ok-middle.middle (bytes ++ head) body (disk.seen c.write_on-2.new.disk)
    (disk.seen c.write_on-3.new.disk) fits two end_2 (c.in_ok-last.ensures.seen told_2) in
    let end_3 : c.in_ok-last.last ≡ at + length ((bytes ++ head) ++ body) =
    omega (arith, end_2, c.in_ok-last.ensures.end, length-append (bytes ++ head) body) in
    let four = write_joined file at c.in_ok-last.last ((bytes ++ head) ++ body) tail (disk.seen c.write_on-3.new.disk)
    (disk.seen c.write_on-4.new.disk) fits three end_3 (c.in_ok-end.ensures.seen told_3) in
    let end_4 : c.in_ok-end.end ≡ at + length (((bytes ++ head) ++ body) ++ tail) =
    omega (arith, end_3, c.in_ok-end.ensures.end, length-append ((bytes ++ head) ++ body) tail) in
    let five = write_joined file at c.in_ok-end.end (((bytes ++ head) ++ body) ++ tail) (0 ∷ []) (disk.seen c.write_on-4.new.disk)
    (disk.seen c.write_on-5.new.disk) fits four end_4 (c.in_ok-write_on.ensures.seen told_4) in
    five ∙ ap (overwritten file at) (framed_in_parts head body tail)
