use Rattle.std.proofs.Common.{◌∙◌, sym}
use Rattle.pj_view.proofs.StretchSets.{entered_before, stretches_more}
use Rattle.pj_view.proofs.touching.add_once.Goals as goal

pub returns-in_ok-add_stretch-clause-stretches : goal.returns-in_ok-add_stretch-clause-stretches
returns-in_ok-add_stretch-clause-stretches c =
    stretches_more c.args.view.now c.args.points.now.items c.add_stretch.new.points.items c.args.added.now c.insert.new.self c.args.stretch c.requires c.in_ok-add_stretch.ensures c.in_ok-insert.ensures.updates.0

pub returns-else-branch-clause-points : goal.returns-else-branch-clause-points
returns-else-branch-clause-points c = entered_before c.args.view.now c.args.points.now.items c.args.added.now c.args.stretch c.requires (sym c.if-branch.false ∙ c.in_ok-insert.ensures.added)

pub returns-else-branch-clause-stretches : goal.returns-else-branch-clause-stretches
returns-else-branch-clause-stretches c =
    let before = entered_before c.args.view.now c.args.points.now.items c.args.added.now c.args.stretch c.requires (sym c.if-branch.false ∙ c.in_ok-insert.ensures.added) in
    stretches_more c.args.view.now c.args.points.now.items c.args.points.now.items c.args.added.now c.insert.new.self c.args.stretch c.requires before c.in_ok-insert.ensures.updates.0
