use Rattle.std.proofs.Common.{length, subst}
use Rattle.std.specs.Prelude.{Contains}
use Rattle.pj_states.proofs.DeletionRules.{deleted, revived, by_within}
use Rattle.pj_states.proofs.changes.deletion.Goals as goal

pub names_of-requires : goal.names_of-requires
names_of-requires c = rw c.items.ensures (
    let r = c.args.record.now in
    let h = c.in-Delete in
    by_within (length r.change.needs) h.owner h.start h.end h.by (deleted r h.owner h.start h.end h.by (subst (Contains r.change.hunks) h.is c.requires)))

pub numbered-requires : goal.numbered-requires
numbered-requires c =
    let r = c.args.record.now in
    let h = c.in-Delete in
    (deleted r h.owner h.start h.end h.by (subst (Contains r.change.hunks) h.is c.requires)).owner_upto

pub names_of-requires-in-Revive : goal.names_of-requires-in-Revive
names_of-requires-in-Revive c = rw c.items-in-Revive.ensures (
    let r = c.args.record.now in
    let h = c.in-Revive in
    by_within (length r.change.needs) h.owner h.start h.end h.by (revived r h.owner h.start h.end h.by (subst (Contains r.change.hunks) h.is c.requires)))

pub numbered-requires-in-Revive : goal.numbered-requires-in-Revive
numbered-requires-in-Revive c =
    let r = c.args.record.now in
    let h = c.in-Revive in
    (revived r h.owner h.start h.end h.by (subst (Contains r.change.hunks) h.is c.requires)).owner_upto
