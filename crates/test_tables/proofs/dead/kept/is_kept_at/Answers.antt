use Rattle.test_tables.specs.States.{shown}
use Rattle.test_tables.specs.Whole.{graph_is_whole}
use Rattle.test_tables.proofs.Alike.{kept_there}
use Rattle.test_tables.proofs.dead.kept.is_kept_at.Goals as goal

pub returns : goal.returns
returns c = λ h.
    let before = c.args.before.now in
    kept_there (shown before) (shown c.args.after.now) (graph_is_whole before.shapes.items before.arrows.items before.apart) c.args.at
    (c.is_dead.ensures c.if-not-is_dead.false) (c.ends_alike.ensures c.if-not-ends_alike.false) (c.in_ok-leads_alike.ensures c.if-not-branch.false) (c.in_ok-kept.ensures h)
