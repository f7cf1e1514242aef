use Rattle.std.proofs.Common.{◌∙◌, arith}
use Rattle.pj_layout.proofs.Taking.{Sorted, sorted_out, class_taken, fewer_left, none_left}
use Rattle.pj_layout.proofs.tangle.tangle.Goals as goal
use Rattle.pj_layout.proofs.tangle.tangle.Goals.{After-move_others}

-- once the counts are lowered, the free row has just the free classes
sorted : (c : After-move_others) → Sorted c.args.order.now.before.now c.args.classes.now c.taking.taken.items c.move_others.new.self c.move_others.new.to c.lower.new.self.digits.items
sorted c = sorted_out c.args.order.now.before.now c.args.classes.now c.taking.taken.items c.taking.rest c.taking.free c.taking.row c.taking.counts.digits.items
    c.move_others.new.self c.move_others.new.to c.in_ok-counted.counted c.lower.new.counted c.lower.new.self.digits.items
    c.lower.ensures.lowered c.in_ok-counted.ensures.clear c.lower.ensures.counted c.move_others.ensures.kept c.move_others.ensures.moved c.taking.invariant

pub taking-smaller : goal.taking-smaller
taking-smaller c =
    let found = c.in-Some.ensures in
    rw c.in_ok-push.ensures.items (fewer_left c.args.order.now.before.now c.args.classes.now c.taking.taken.items c.move_others.new.self c.move_others.new.to c.lower.new.self.digits.items c.in-Some.class c.clear.new.self c.copy_row.new.self
    found.2 (λ k b. found.3 k (omega arith) b) c.clear.ensures.here c.clear.ensures.others c.copy_row.ensures.copied c.requires.sorted (sorted (goal.at.taking-smaller c).After-move_others))

pub taking-preserved : goal.taking-preserved
taking-preserved c =
    let found = c.in-Some.ensures in
    let was = c.taking.invariant in
    rw c.in_ok-push.ensures.items (class_taken c.args.order.now.before.now c.args.classes.now c.taking.taken.items c.move_others.new.self c.move_others.new.to c.lower.new.self.digits.items c.in-Some.class c.clear.new.self c.copy_row.new.self
    found.2 (λ k b. found.3 k (omega arith) b) c.clear.ensures.here c.clear.ensures.others c.copy_row.ensures.copied c.requires.sorted (sorted (goal.at.taking-preserved c).After-move_others)
    (λ k d h. c.lower.ensures.width k d h ∙ was.row_width)
    (c.move_others.ensures.size ∙ was.rest_width)
    (c.clear.ensures.size ∙ c.move_others.ensures.to_size ∙ was.free_width)
    (c.copy_row.ensures.size ∙ c.lower.ensures.row_width ∙ was.row_width))

pub returns : goal.returns
returns c = none_left c.args.order.now.before.now c.args.order.now.prepared.strict c.args.classes.now c.taking.taken.items c.move_others.new.self c.move_others.new.to c.lower.new.self.digits.items
    (λ k. c.in_default.ensures k (omega arith)) (sorted (goal.at.returns c).After-move_others)
