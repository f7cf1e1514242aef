use Rattle.std.proofs.Common.{◌≡◌, true, false}
use Rattle.std.specs.BTreeSet.{contains}
use Rattle.pj_change.specs.Graph.{point_cmp}
use Rattle.pj_dead.proofs.Seen.{seen_more, goes_seen, goes_new, was_there, was_new}
use Rattle.pj_dead.proofs.found.Found.with.Goals as goal

pub returns-then-not-branch : goal.returns-then-not-branch
returns-then-not-branch c =
    let old = c.self.inside.seen in
    let there : contains point_cmp old c.args.point ≡ true = was_there c.in_ok-insert.field-0 (contains point_cmp old c.args.point) c.in_ok-insert.ensures.added c.if-not-branch.true in
    rw (← c.self.view_is) (goes_seen c.self.inside.list.items old c.self.invariant c.args.point there)

pub invariant_of-self-2 : goal.invariant_of-self-2
invariant_of-self-2 c =
    rw c.in_ok-push.ensures.items (seen_more c.self.inside.list.items c.self.inside.seen c.insert.new.self c.args.point c.self.invariant c.in_ok-insert.ensures.updates.0)

pub returns : goal.returns
returns c =
    let old = c.self.inside.seen in
    let new : contains point_cmp old c.args.point ≡ false = was_new c.in_ok-insert.field-0 (contains point_cmp old c.args.point) c.in_ok-insert.ensures.added c.if-not-branch.false in
    rw (c.in_ok-push.ensures.items, ← c.self.view_is) (goes_new c.self.inside.list.items old c.self.invariant c.args.point new)
