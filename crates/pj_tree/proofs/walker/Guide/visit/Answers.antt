use Rattle.std.proofs.Common.{sym, ap, ◌∙◌, get_or}
use Rattle.pj_tree.specs.declared.pairings.Pairing.{Pairing}
use Rattle.pj_tree.specs.Frames.{seen_of}
use Rattle.pj_tree.proofs.Siblings.{children_sorted}
use Rattle.pj_tree.proofs.Marks.{marked_after}
use Rattle.pj_tree.proofs.Turns.{frame_pairing, turn, work_less}
use Rattle.pj_tree.proofs.walker.Guide.visit.Goals as goal

pub child_path-requires-clause-sorted : goal.child_path-requires-clause-sorted
child_path-requires-clause-sorted c = rw c.requires.frame.are (children_sorted c.requires.frame.parent c.args.self.now.pairings.now c.requires.sound.pairings)

pub mark-kind-requires-clause-there : goal.mark-kind-requires-clause-there
mark-kind-requires-clause-there c =
    let at = λ (e : Pairing). get_or c.args.frame.now.children.now c.args.frame.now.next e in
    c.requires.sound.kinds _ (frame_pairing c.args.self.now c.args.frame.now _ c.requires.frame c.requires.left (ap at (sym c.index-frame-frame.is)))

pub returns-clause-turn : goal.returns-clause-turn
returns-clause-turn c =
    let at = λ (e : Pairing). get_or c.args.frame.now.children.now c.args.frame.now.next e in
    let kind = c.mark-kind.ensures.kind (seen_of c.args.progress.now.steps.items) c.requires.marked in
    let path = c.of.ensures ∙ rw c.deref.ensures.value at (c.in_ok-path.ensures c.index-frame-frame.result) in
    turn c.args.self.now c.args.frame.now (at c.index-frame-frame.result) _ _ _ _ _ _ c.requires.sound c.requires.frame c.requires.left (ap at (sym c.index-frame-frame.is))
    kind path c.is_executable.ensures (rw (c.deref-2.ensures.value, ← c.of.ensures) at c.in_ok-inner.ensures) c.in_ok-push.ensures.items

pub returns-clause-marked : goal.returns-clause-marked
returns-clause-marked c =
    let kind = c.mark-kind.ensures.marked (seen_of c.args.progress.now.steps.items) c.requires.marked in
    marked_after _ _ _ _ _ c.in_ok-push.ensures.items kind

pub returns-clause-less : goal.returns-clause-less
returns-clause-less c =
    work_less c.args.self.now.pairings.now c.mark-kind.result _ _ c.in_ok-inner.inner c.args.frame.now c.mark-kind.new.seen.items c.args.progress.now.seen.items c.in_ok-inner.ensures c.requires.left c.mark-kind.ensures.fewer
