-- What is stored stays, and what is staged has the string behind it.
use Rattle.std.proofs.Common.{◌≡◌, ◌∙◌, ◌+◌, ◌≤◌, [], ◌∷◌, ◌++◌, IsTrue, false, sym, ap, subst, arith}
use Rattle.pj_disk.specs.Moments.{LeavesOnly}
use Rattle.pj_journal.specs.Stored.{Stores}
use Rattle.pj_journal.specs.Group.{Stages, HasPrefix, IsGrouped}
use Rattle.pj_journal.proofs.Moments.{weaker}
use Rattle.pj_journal.proofs.Grouped.{stores_prefix, grouped_staged}
use Rattle.pj_journal.proofs.group.GroupLog.stage.Goals as goal

pub invariant_of-self : goal.invariant_of-self
invariant_of-self g c =
    let disk = g.K.Disk in
    let inside = c.self.inside in
    let string = c.args.head.now ++ c.args.body.now ++ c.args.tail.now in
    let after = c.stage_at.new.disk in
    let order : inside.place ≤ inside.end = c.self.invariant.0 in
    let end = c.in-Ok.ensures.end in (
      omega (arith, order, end),
      c.in-Ok.ensures.bound,
      λ sound told.
          let before = subst IsTrue c.stage_at.ensures.told told in
          let grouped = c.self.invariant.2 sound before in
          let keeps = c.stage_at.ensures.keeps before grouped.kept in
          subst (IsGrouped (disk.seen after) (disk.may_leave after) inside.place) (sym end)
          (grouped_staged (disk.seen inside.disk) (disk.may_leave inside.disk) inside.place inside.end grouped order string
          (disk.seen after) (disk.may_leave after)
          (λ group stages. subst (λ p. Stages (disk.seen after) inside.place p (group ++ string ∷ [])) end (c.in-Ok.ensures.staged before group stages))
          keeps.stays keeps.images),
    )

pub returns-in-Ok-clause-list : goal.returns-in-Ok-clause-list
returns-in-Ok-clause-list g c = λ told strings stored.
    let disk = g.K.Disk in
    let inside = c.self.inside in
    let sound : inside.failed ≡ false = ap (λ log. log.failed) c.self.view_is ∙ c.requires.sound in
    let before = subst (λ log. IsTrue (disk.tells log.disk)) (sym c.self.view_is) told in
    let grouped = c.self.invariant.2 sound before in
    stores_prefix (disk.seen inside.disk) (disk.may_leave inside.disk) inside.place inside.end grouped strings
    (subst (λ log. Stores (disk.seen log.disk) strings) (sym c.self.view_is) stored)
    (disk.seen c.stage_at.new.disk) (c.stage_at.ensures.keeps before grouped.kept).stays

pub returns-in-Ok-clause-moments : goal.returns-in-Ok-clause-moments
returns-in-Ok-clause-moments g c = λ told strings stored.
    let disk = g.K.Disk in
    let inside = c.self.inside in
    let after = c.stage_at.new.disk in
    let sound : inside.failed ≡ false = ap (λ log. log.failed) c.self.view_is ∙ c.requires.sound in
    let before = subst (λ log. IsTrue (disk.tells log.disk)) (sym c.self.view_is) told in
    let grouped = c.self.invariant.2 sound before in
    subst (λ log. LeavesOnly disk.moment disk.left_since log.disk after (λ f. Stores f strings)) c.self.view_is
    (weaker disk.moment disk.left_since inside.disk after (λ f. Stores f strings) (HasPrefix (inside.place + 1) (disk.seen inside.disk))
    (c.stage_at.ensures.keeps before grouped.kept).moments
    (stores_prefix (disk.seen inside.disk) (disk.may_leave inside.disk) inside.place inside.end grouped strings
    (subst (λ log. Stores (disk.seen log.disk) strings) (sym c.self.view_is) stored)))

pub returns-in-Err-clause-list : goal.returns-in-Err-clause-list
returns-in-Err-clause-list g c = λ told strings stored.
    let disk = g.K.Disk in
    let inside = c.self.inside in
    let sound : inside.failed ≡ false = ap (λ log. log.failed) c.self.view_is ∙ c.requires.sound in
    let before = subst (λ log. IsTrue (disk.tells log.disk)) (sym c.self.view_is) told in
    let grouped = c.self.invariant.2 sound before in
    stores_prefix (disk.seen inside.disk) (disk.may_leave inside.disk) inside.place inside.end grouped strings
    (subst (λ log. Stores (disk.seen log.disk) strings) (sym c.self.view_is) stored)
    (disk.seen c.stage_at.new.disk) (c.stage_at.ensures.keeps before grouped.kept).stays

pub returns-in-Err-clause-moments : goal.returns-in-Err-clause-moments
returns-in-Err-clause-moments g c = λ told strings stored.
    let disk = g.K.Disk in
    let inside = c.self.inside in
    let after = c.stage_at.new.disk in
    let sound : inside.failed ≡ false = ap (λ log. log.failed) c.self.view_is ∙ c.requires.sound in
    let before = subst (λ log. IsTrue (disk.tells log.disk)) (sym c.self.view_is) told in
    let grouped = c.self.invariant.2 sound before in
    subst (λ log. LeavesOnly disk.moment disk.left_since log.disk after (λ f. Stores f strings)) c.self.view_is
    (weaker disk.moment disk.left_since inside.disk after (λ f. Stores f strings) (HasPrefix (inside.place + 1) (disk.seen inside.disk))
    (c.stage_at.ensures.keeps before grouped.kept).moments
    (stores_prefix (disk.seen inside.disk) (disk.may_leave inside.disk) inside.place inside.end grouped strings
    (subst (λ log. Stores (disk.seen log.disk) strings) (sym c.self.view_is) stored)))
