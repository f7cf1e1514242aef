-- The place goes on behind the entry.
use Rattle.std.proofs.Common.{◌≡◌, ◌∙◌, ◌+◌, ◌^◌, ◌<◌, IsTrue, IfSome, length, subst, sym, arith, false}
use Rattle.pj_journal.specs.Log.{Found, IsKept}
use Rattle.pj_journal.proofs.Kept.{kept_read}
use Rattle.pj_journal.proofs.log.Log.read.Goals as goal

pub invariant_of-self-in-Some : goal.invariant_of-self-in-Some
invariant_of-self-in-Some g c =
    let disk = g.K.Disk in
    let inside = c.self.inside in
    let string = c.in-Some.string in
    let after = c.string_at.new.disk in
    let long : length string.items ≡ c.len.result = sym (c.len.ensures ∙ string.ok.0) in
    let bound : inside.place + 9 + length string.items < 2 ^ 63 =
    subst (λ found. IfSome found (λ text. inside.place + 9 + length text.items < 2 ^ 63)) c.in-Some.is c.in_ok-found.ensures.bound in (
      omega (arith, bound, long),
      λ sound told.
          let before = subst IsTrue c.string_at.ensures.told told in
          subst (λ n. IsKept (disk.seen after) (disk.may_leave after) (inside.place + (9 + n)) false) long
          (kept_read (disk.seen inside.disk) (disk.may_leave inside.disk) inside.place inside.ended (c.self.invariant.1 sound before)
          string.items (disk.seen after) (disk.may_leave after)
          (subst (λ found. Found (disk.seen inside.disk) inside.place found) c.in-Some.is (c.in_ok-found.ensures.found before))
          (c.string_at.ensures.seen before) (c.string_at.ensures.images before)),
    )
