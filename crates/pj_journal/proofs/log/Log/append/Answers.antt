-- The file had the list of what was read and appended, and has the string behind it.
use Rattle.std.proofs.Common.{◌≡◌, ◌∙◌, ◌+◌, ◌^◌, ◌<◌, true, IsTrue, length, subst, sym, ap, arith}
use Rattle.pj_journal.specs.Format.{framed}
use Rattle.pj_journal.specs.Appended.{put_at, appended, LeftByPut, LeftByAppend, IsBeforeOrAfter}
use Rattle.pj_disk.specs.Moments.{LeavesOnly}
use Rattle.pj_journal.specs.Stored.{Stores, EndsAt}
use Rattle.pj_journal.specs.Log.{IsKept}
use Rattle.pj_journal.proofs.Moments.{weaker}
use Rattle.pj_journal.proofs.Appends.{length-framed}
use Rattle.pj_journal.proofs.Kept.{kept_end, kept_appended, stores_appended, stores_either}
use Rattle.pj_journal.proofs.log.Log.append.Goals as goal

pub invariant_of-self : goal.invariant_of-self
invariant_of-self g c =
    let disk = g.K.Disk in
    let inside = c.self.inside in
    let string = c.args.frame.now in
    let after = c.put.new.disk in
    let long : length string ≡ c.string_len.result = sym c.string_len.ensures in
    let bound : inside.place + 1 + length (framed string) < 2 ^ 63 =
    subst (λ bytes. inside.place + 1 + length bytes < 2 ^ 63) c.bytes.ensures.bytes c.in-Ok.ensures.bound in
    let ended : inside.ended ≡ true = ap (λ log. log.ended) c.self.view_is ∙ c.requires.ended in (
      omega (arith, bound, long, length-framed string),
      λ sound told.
          let before = subst IsTrue c.put.ensures.told told in
          let is : disk.seen after ≡ appended (disk.seen inside.disk) inside.place string =
          c.in-Ok.ensures.seen before ∙ ap (put_at (disk.seen inside.disk) inside.place) c.bytes.ensures.bytes in
          subst (λ n. IsKept (disk.seen after) (disk.may_leave after) (inside.place + (9 + n)) inside.ended) long
          (kept_appended (disk.seen inside.disk) (disk.may_leave inside.disk) inside.place inside.ended (c.self.invariant.1 sound before)
          ended string c.bytes.ensures.storable (disk.seen after) (disk.may_leave after) is (c.in-Ok.ensures.durable before)),
    )

pub returns-in-Ok-clause-acknowledged : goal.returns-in-Ok-clause-acknowledged
returns-in-Ok-clause-acknowledged g c = λ told.
    let disk = g.K.Disk in
    let inside = c.self.inside in
    let string = c.args.frame.now in
    let after = c.put.new.disk in
    let ended : inside.ended ≡ true = ap (λ log. log.ended) c.self.view_is ∙ c.requires.ended in
    let sound = ap (λ log. log.failed) c.self.view_is ∙ c.requires.sound in
    let before = subst (λ log. IsTrue (disk.tells log.disk)) (sym c.self.view_is) told in
    let is : disk.seen after ≡ appended (disk.seen inside.disk) inside.place string =
    c.in-Ok.ensures.seen before ∙ ap (put_at (disk.seen inside.disk) inside.place) c.bytes.ensures.bytes in
    λ strings stored.
    stores_appended (disk.seen inside.disk) (disk.may_leave inside.disk) inside.place inside.ended (c.self.invariant.1 sound before)
    ended string c.bytes.ensures.storable (disk.seen after) is strings
    (subst (λ log. Stores (disk.seen log.disk) strings) (sym c.self.view_is) stored)

pub returns-in-Ok-clause-moments : goal.returns-in-Ok-clause-moments
returns-in-Ok-clause-moments g c = λ told.
    let disk = g.K.Disk in
    let inside = c.self.inside in
    let string = c.args.frame.now in
    let after = c.put.new.disk in
    let ended : inside.ended ≡ true = ap (λ log. log.ended) c.self.view_is ∙ c.requires.ended in
    let sound = ap (λ log. log.failed) c.self.view_is ∙ c.requires.sound in
    let before = subst (λ log. IsTrue (disk.tells log.disk)) (sym c.self.view_is) told in
    let run : LeavesOnly disk.moment disk.left_since inside.disk after (LeftByAppend (disk.seen inside.disk) inside.place string) =
    subst (λ bytes. LeavesOnly disk.moment disk.left_since inside.disk after (LeftByPut (disk.seen inside.disk) inside.place bytes)) c.bytes.ensures.bytes
    (c.put.ensures.moments before) in
    λ strings stored.
    subst (λ log. LeavesOnly disk.moment disk.left_since log.disk after (IsBeforeOrAfter strings string)) c.self.view_is
    (weaker disk.moment disk.left_since inside.disk after (IsBeforeOrAfter strings string) (LeftByAppend (disk.seen inside.disk) inside.place string) run
    (stores_either (disk.seen inside.disk) (disk.may_leave inside.disk) inside.place inside.ended (c.self.invariant.1 sound before)
    ended string c.bytes.ensures.storable strings
    (subst (λ log. Stores (disk.seen log.disk) strings) (sym c.self.view_is) stored)))

pub returns-in-Err-clause-moments : goal.returns-in-Err-clause-moments
returns-in-Err-clause-moments g c = λ told.
    let disk = g.K.Disk in
    let inside = c.self.inside in
    let string = c.args.frame.now in
    let after = c.put.new.disk in
    let ended : inside.ended ≡ true = ap (λ log. log.ended) c.self.view_is ∙ c.requires.ended in
    let sound = ap (λ log. log.failed) c.self.view_is ∙ c.requires.sound in
    let before = subst (λ log. IsTrue (disk.tells log.disk)) (sym c.self.view_is) told in
    let run : LeavesOnly disk.moment disk.left_since inside.disk after (LeftByAppend (disk.seen inside.disk) inside.place string) =
    subst (λ bytes. LeavesOnly disk.moment disk.left_since inside.disk after (LeftByPut (disk.seen inside.disk) inside.place bytes)) c.bytes.ensures.bytes
    (c.put.ensures.moments before) in
    λ strings stored.
    subst (λ log. LeavesOnly disk.moment disk.left_since log.disk after (IsBeforeOrAfter strings string)) c.self.view_is
    (weaker disk.moment disk.left_since inside.disk after (IsBeforeOrAfter strings string) (LeftByAppend (disk.seen inside.disk) inside.place string) run
    (stores_either (disk.seen inside.disk) (disk.may_leave inside.disk) inside.place inside.ended (c.self.invariant.1 sound before)
    ended string c.bytes.ensures.storable strings
    (subst (λ log. Stores (disk.seen log.disk) strings) (sym c.self.view_is) stored)))

pub returns-in-Ok-clause-end : goal.returns-in-Ok-clause-end
returns-in-Ok-clause-end g c = λ told.
    let disk = g.K.Disk in
    let inside = c.self.inside in
    let ended : inside.ended ≡ true = ap (λ log. log.ended) c.self.view_is ∙ c.requires.ended in
    let sound = ap (λ log. log.failed) c.self.view_is ∙ c.requires.sound in
    let before = subst (λ log. IsTrue (disk.tells log.disk)) (sym c.self.view_is) told in
    subst (λ log. EndsAt (disk.seen log.disk) log.place) c.self.view_is
    (kept_end (disk.seen inside.disk) (disk.may_leave inside.disk) inside.place inside.ended (c.self.invariant.1 sound before) ended)

pub returns-in-Err-clause-end : goal.returns-in-Err-clause-end
returns-in-Err-clause-end g c = λ told.
    let disk = g.K.Disk in
    let inside = c.self.inside in
    let ended : inside.ended ≡ true = ap (λ log. log.ended) c.self.view_is ∙ c.requires.ended in
    let sound = ap (λ log. log.failed) c.self.view_is ∙ c.requires.sound in
    let before = subst (λ log. IsTrue (disk.tells log.disk)) (sym c.self.view_is) told in
    subst (λ log. EndsAt (disk.seen log.disk) log.place) c.self.view_is
    (kept_end (disk.seen inside.disk) (disk.may_leave inside.disk) inside.place inside.ended (c.self.invariant.1 sound before) ended)
