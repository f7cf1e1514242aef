use Rattle.std.proofs.Common.{◌∙◌}
use Rattle.pj_tree.specs.Frames.{seen_of}
use Rattle.pj_tree.proofs.Marks.{marked_after}
use Rattle.pj_tree.proofs.Entering.{entered_file, entered_dir}
use Rattle.pj_tree.proofs.walker.Guide.enter.Goals as goal

pub walk-requires-clause-marked : goal.walk-requires-clause-marked
walk-requires-clause-marked c = marked_after _ _ _ _ _ c.in_ok-push.ensures.items (c.mark-kind.ensures.marked (seen_of c.args.progress.now.steps.items) c.requires.marked)

pub returns-in_ok-walk-clause-entered : goal.returns-in_ok-walk-clause-entered
returns-in_ok-walk-clause-entered c =
    entered_dir c.args.self.now c.args.word c.args.inode c.mark-kind.result _ _ c.requires.there c.requires.fresh
    (c.mark-kind.ensures.kind (seen_of c.args.progress.now.steps.items) c.requires.marked) (c.of.ensures ∙ c.in_ok-path.ensures) c.in-Some.inner _ _ (rw (c.deref.ensures.value, ← c.of.ensures, c.in-Some.is) at c.in_ok-inner.ensures) c.in_ok-push.ensures.items c.in_ok-walk.ensures.visited

pub returns-in_default-clause-entered : goal.returns-in_default-clause-entered
returns-in_default-clause-entered c =
    entered_file c.args.self.now c.args.word c.args.inode c.mark-kind.result _ _ c.requires.there c.requires.fresh
    (c.mark-kind.ensures.kind (seen_of c.args.progress.now.steps.items) c.requires.marked) (c.of.ensures ∙ c.in_ok-path.ensures) _ (rw (c.deref.ensures.value, ← c.of.ensures, c.in_default.is) at c.in_ok-inner.ensures) c.in_ok-push.ensures.items

pub returns-in_default-clause-marked : goal.returns-in_default-clause-marked
returns-in_default-clause-marked c = marked_after _ _ _ _ _ c.in_ok-push.ensures.items (c.mark-kind.ensures.marked (seen_of c.args.progress.now.steps.items) c.requires.marked)
