use Rattle.std.proofs.Common.{◌∙◌, sym, refl}
use Rattle.pj_ranges.proofs.Walked.{next_same, reached_bound, none_over, is_kept, next_over, next_falls, walk_falls, none_of_owner, reached_past}
use Rattle.pj_ranges.proofs.walk.Walk.next_over.Goals as goal
use Rattle.pj_change.proofs.EqualNames.{equal_names, other_names}

pub loop-range-init : goal.loop-range-init
loop-range-init c = record {
  same = refl;
  reached = reached_bound c.self.inside.rows c.self.invariant c.args.at c.args.after c.bound_after-bound.result c.bound_after-bound.ensures.owner c.bound_after-bound.ensures.after c.bound_after-bound.ensures.first;
}

pub returns-then-ne-clause-next : goal.returns-then-ne-clause-next
returns-then-ne-clause-next c =
    rw (← c.self.view_is)
    (none_of_owner c.self.inside.rows c.self.invariant c.args.at c.args.after c.loop-range.bound c.loop-range.invariant.reached c.in-Some.range.now _ (next_same c.loop-range.bound c.loop-range.invariant.same c.in-Some.ensures.next) (other_names _ _ c.if-ne.ensures))

pub returns-then-has_point-clause-next : goal.returns-then-has_point-clause-next
returns-then-has_point-clause-next c =
    rw (← c.self.view_is)
    (next_over c.self.inside.rows c.self.invariant c.args.at c.args.after c.loop-range.bound c.loop-range.invariant.reached c.in-Some.range.now _ (next_same c.loop-range.bound c.loop-range.invariant.same c.in-Some.ensures.next) (sym c.has_point.ensures ∙ c.if-has_point.true))

pub returns-then-has_point-clause-falls : goal.returns-then-has_point-clause-falls
returns-then-has_point-clause-falls c =
    rw (← c.self.view_is)
    (next_falls c.self.inside.rows c.self.invariant c.args.at c.args.after c.loop-range.bound c.loop-range.invariant.reached c.in-Some.range.now _ (next_same c.loop-range.bound c.loop-range.invariant.same c.in-Some.ensures.next))

pub past-bound-requires-clause-owner : goal.past-bound-requires-clause-owner
past-bound-requires-clause-owner c = equal_names _ _ c.if-ne.ensures

pub past-bound-requires-clause-measured : goal.past-bound-requires-clause-measured
past-bound-requires-clause-measured c =
    c.self.invariant.measured c.in-Some.range.now
    (is_kept c.self.inside.rows c.self.invariant c.args.at c.args.after c.loop-range.bound c.loop-range.invariant.reached c.in-Some.range.now _ (next_same c.loop-range.bound c.loop-range.invariant.same c.in-Some.ensures.next))

pub loop-range-smaller : goal.loop-range-smaller
loop-range-smaller c =
    walk_falls c.self.inside.rows c.self.invariant c.args.at c.args.after c.loop-range.bound c.loop-range.invariant.reached c.in-Some.range.now _ (next_same c.loop-range.bound c.loop-range.invariant.same c.in-Some.ensures.next) c.past-bound.result c.past-bound.ensures.keeps

pub loop-range-preserved : goal.loop-range-preserved
loop-range-preserved c = record {
  same = c.next_after.ensures.same ∙ c.loop-range.invariant.same;
  reached = reached_past c.self.inside.rows c.self.invariant c.args.at c.args.after c.loop-range.bound c.loop-range.invariant.reached c.in-Some.range.now _ (next_same c.loop-range.bound c.loop-range.invariant.same c.in-Some.ensures.next)
      (λ over. (let f = sym over ∙ (sym c.has_point.ensures ∙ c.if-has_point.false) in absurd (cc)))
      (equal_names _ _ c.if-ne.ensures) c.past-bound.result c.past-bound.ensures.owner c.past-bound.ensures.keeps c.past-bound.ensures.skips;
}

pub returns-clause-next : goal.returns-clause-next
returns-clause-next c =
    rw (← c.self.view_is)
    (none_over c.self.inside.rows c.self.invariant c.args.at c.args.after c.loop-range.bound c.loop-range.invariant.reached (next_same c.loop-range.bound c.loop-range.invariant.same c.in_default.ensures.next))
