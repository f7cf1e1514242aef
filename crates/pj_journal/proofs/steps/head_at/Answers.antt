-- What was read are the first bytes from the place on, up to 9.
use Rattle.std.proofs.Common.{◌≡◌, ◌∙◌, IsTrue, length, take, drop, subst, sym, ap}
use Rattle.pj_journal.specs.Head.{SaysHead}
use Rattle.pj_journal.proofs.Heads.{says_head, front_read}
use Rattle.pj_journal.proofs.steps.head_at.Goals as goal

pub returns-clause-head : goal.returns-clause-head
returns-clause-head g c = λ told.
    let file = g.K.Disk.seen c.args.disk.now in
    let still = subst IsTrue (sym c.read.ensures.told) told in
    let front : take c.in_ok-count.count c.read.new.into ≡ take 9 (drop c.args.place file) =
    front_read file _ c.read.new.into c.args.place c.in_ok-count.count (c.in_ok-count.ensures.bytes told) in
    let long : c.in_ok-file_len.file_len ≡ length file = c.in_ok-file_len.ensures.length still ∙ ap length (c.read.ensures.seen told) in
    says_head file c.args.place c.head_of.result
    (subst (λ n. SaysHead (take 9 (drop c.args.place file)) c.args.place n c.head_of.result) long
    (subst (λ bytes. SaysHead bytes c.args.place c.in_ok-file_len.file_len c.head_of.result) front c.head_of.ensures.says))
