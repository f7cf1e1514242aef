-- The opened gate stores what was staged.
use Rattle.std.proofs.Common.{◌≡◌, ◌∙◌, ◌⊎◌, ◌+◌, ◌≤◌, ◌<◌, IsTrue, false, sym, ap, subst, arith}
use Rattle.pj_disk.specs.Image.{Torn}
use Rattle.pj_disk.specs.Moments.{LeavesOnly}
use Rattle.pj_journal.specs.Stored.{Stores}
use Rattle.pj_journal.specs.Group.{Stages, HasPrefix, StoresAllOrNone}
use Rattle.pj_journal.proofs.Moments.{weaker}
use Rattle.pj_journal.proofs.Grouped.{grouped_sealed, stages_sealed, stores_sealed, stores_torn, stores_none}
use Rattle.pj_journal.proofs.group.GroupLog.seal.Goals as goal

pub returns-then-self-clause-acknowledged : goal.returns-then-self-clause-acknowledged
returns-then-self-clause-acknowledged g c = λ told strings group stored stages.
    let now = c.args.self.now in
    let none : now.place ≡ now.end = sym (ap (λ log. log.place) c.self.view_is) ∙ c.if-self.true ∙ ap (λ log. log.end) c.self.view_is in
    stores_none (g.K.Disk.seen now.disk) now.place now.end none strings group stages stored

pub invariant_of-self : goal.invariant_of-self
invariant_of-self g c =
    let disk = g.K.Disk in
    let inside = c.self.inside in
    let after = c.open_gate.new.disk in
    let order : inside.place ≤ inside.end = c.self.invariant.0 in
    let some : inside.place < inside.end = omega (arith, order, c.if-self.false) in (
      omega arith,
      c.self.invariant.1,
      λ sound told.
          let before = subst IsTrue c.open_gate.ensures.told told in
          grouped_sealed (disk.seen inside.disk) (disk.may_leave inside.disk) inside.place inside.end (c.self.invariant.2 sound before) some
          (disk.seen after) (disk.may_leave after) (c.in-Ok.ensures.seen before) (c.in-Ok.ensures.durable before),
    )

pub returns-in-Ok-clause-acknowledged : goal.returns-in-Ok-clause-acknowledged
returns-in-Ok-clause-acknowledged g c = λ told strings group stored stages.
    let disk = g.K.Disk in
    let inside = c.self.inside in
    let after = c.open_gate.new.disk in
    let order : inside.place ≤ inside.end = c.self.invariant.0 in
    let some : inside.place < inside.end = omega (arith, order, c.if-self.false) in
    let sound : inside.failed ≡ false = ap (λ log. log.failed) c.self.view_is ∙ c.requires.sound in
    let before = subst (λ log. IsTrue (disk.tells log.disk)) (sym c.self.view_is) told in
    let grouped = c.self.invariant.2 sound before in
    stores_sealed (disk.seen inside.disk) (disk.may_leave inside.disk) inside.place inside.end grouped some strings group
    (subst (λ log. Stores (disk.seen log.disk) strings) (sym c.self.view_is) stored)
    (subst (λ log. Stages (disk.seen log.disk) log.place log.end group) (sym c.self.view_is) stages)
    (disk.seen after) (c.in-Ok.ensures.seen before)

pub returns-in-Ok-clause-stages : goal.returns-in-Ok-clause-stages
returns-in-Ok-clause-stages g c = λ told.
    let disk = g.K.Disk in
    let inside = c.self.inside in
    let after = c.open_gate.new.disk in
    let order : inside.place ≤ inside.end = c.self.invariant.0 in
    let some : inside.place < inside.end = omega (arith, order, c.if-self.false) in
    let sound : inside.failed ≡ false = ap (λ log. log.failed) c.self.view_is ∙ c.requires.sound in
    let before = subst (λ log. IsTrue (disk.tells log.disk)) (sym c.self.view_is) told in
    let grouped = c.self.invariant.2 sound before in
    stages_sealed (disk.seen inside.disk) (disk.may_leave inside.disk) inside.place inside.end grouped some (disk.seen after) (c.in-Ok.ensures.seen before)

pub returns-in-Ok-clause-moments : goal.returns-in-Ok-clause-moments
returns-in-Ok-clause-moments g c = λ told strings group stored stages.
    let disk = g.K.Disk in
    let inside = c.self.inside in
    let after = c.open_gate.new.disk in
    let order : inside.place ≤ inside.end = c.self.invariant.0 in
    let some : inside.place < inside.end = omega (arith, order, c.if-self.false) in
    let sound : inside.failed ≡ false = ap (λ log. log.failed) c.self.view_is ∙ c.requires.sound in
    let before = subst (λ log. IsTrue (disk.tells log.disk)) (sym c.self.view_is) told in
    let grouped = c.self.invariant.2 sound before in
    subst (λ log. LeavesOnly disk.moment disk.left_since log.disk after (StoresAllOrNone strings group)) c.self.view_is
    (weaker disk.moment disk.left_since inside.disk after (StoresAllOrNone strings group)
    (λ f. HasPrefix (inside.place + 1) (disk.seen inside.disk) f ⊎ Torn inside.place 1 (disk.seen inside.disk) f) (c.open_gate.ensures.moments before)
    (stores_torn (disk.seen inside.disk) (disk.may_leave inside.disk) inside.place inside.end grouped some strings group
    (subst (λ log. Stores (disk.seen log.disk) strings) (sym c.self.view_is) stored)
    (subst (λ log. Stages (disk.seen log.disk) log.place log.end group) (sym c.self.view_is) stages)))

pub returns-in-Err-clause-moments : goal.returns-in-Err-clause-moments
returns-in-Err-clause-moments g c = λ told strings group stored stages.
    let disk = g.K.Disk in
    let inside = c.self.inside in
    let after = c.open_gate.new.disk in
    let order : inside.place ≤ inside.end = c.self.invariant.0 in
    let some : inside.place < inside.end = omega (arith, order, c.if-self.false) in
    let sound : inside.failed ≡ false = ap (λ log. log.failed) c.self.view_is ∙ c.requires.sound in
    let before = subst (λ log. IsTrue (disk.tells log.disk)) (sym c.self.view_is) told in
    let grouped = c.self.invariant.2 sound before in
    subst (λ log. LeavesOnly disk.moment disk.left_since log.disk after (StoresAllOrNone strings group)) c.self.view_is
    (weaker disk.moment disk.left_since inside.disk after (StoresAllOrNone strings group)
    (λ f. HasPrefix (inside.place + 1) (disk.seen inside.disk) f ⊎ Torn inside.place 1 (disk.seen inside.disk) f) (c.open_gate.ensures.moments before)
    (stores_torn (disk.seen inside.disk) (disk.may_leave inside.disk) inside.place inside.end grouped some strings group
    (subst (λ log. Stores (disk.seen log.disk) strings) (sym c.self.view_is) stored)
    (subst (λ log. Stages (disk.seen log.disk) log.place log.end group) (sym c.self.view_is) stages)))
