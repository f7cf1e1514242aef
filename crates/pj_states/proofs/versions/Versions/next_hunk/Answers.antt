use Rattle.std.proofs.Common.{◌∙◌, sym, subst, refl, Some, None}
use Rattle.pj_ranges.proofs.Walked.{step_same, falls_same}
use Rattle.pj_states.specs.Index.{AreIndexed}
use Rattle.pj_states.proofs.Walked.{owner_here}
use Rattle.pj_states.proofs.Nearest.{IsNearest, nearest_starts, nearest_taken, nearest_left, nearest_ends}
use Rattle.pj_states.proofs.versions.Versions.next_hunk.Goals as goal
use Rattle.pj_states.proofs.versions.Versions.next_hunk.Goals.{then-is_nearer, else-is_nearer}

pub loop-next-init : goal.loop-next-init
loop-next-init c = record {
  same = refl;
  walked = nearest_starts c.args.self.now c.next_over-next.new.self c.args.at c.args.after c.next_over-next.result (step_same c.args.at None c.next_over-next.result (sym c.next_over-next.ensures.same) c.next_over-next.ensures.next);
}

pub loop-next-preserved : goal.loop-next-preserved
loop-next-preserved c =
    let x = subst (AreIndexed c.args.self.now) (sym c.next_over-next.ensures.same) c.walk-walk.ensures in
    let w = subst (λ n. IsNearest c.args.self.now c.next_over-next.new.self c.args.at c.args.after n c.loop-next.found) c.in-Some.is c.loop-next.invariant.walked in
    record {
      same = c.next_over-next-in-Some.ensures.same ∙ c.loop-next.invariant.same;
      walked = elim c.if-is_nearer.branch [
        | then-is_nearer b ↦ subst (λ found. IsNearest c.args.self.now c.next_over-next.new.self c.args.at c.args.after c.next_over-next-in-Some.result found) (sym b.found-is)
            (nearest_taken c.args.self.now c.next_over-next.new.self c.args.at c.args.after x c.in-Some.range c.next_over-next-in-Some.result c.loop-next.found w
            (step_same c.args.at (Some c.in-Some.range) c.next_over-next-in-Some.result c.loop-next.invariant.same c.next_over-next-in-Some.ensures.next) (sym c.is_nearer.ensures ∙ b.if-is_nearer.true))
        | else-is_nearer b ↦ subst (λ found. IsNearest c.args.self.now c.next_over-next.new.self c.args.at c.args.after c.next_over-next-in-Some.result found) (sym b.found-is)
            (nearest_left c.args.self.now c.next_over-next.new.self c.args.at c.args.after x c.in-Some.range c.next_over-next-in-Some.result c.loop-next.found w
            (step_same c.args.at (Some c.in-Some.range) c.next_over-next-in-Some.result c.loop-next.invariant.same c.next_over-next-in-Some.ensures.next) (sym c.is_nearer.ensures ∙ b.if-is_nearer.false))
      ];
    }

pub loop-next-smaller : goal.loop-next-smaller
loop-next-smaller c = rw c.in-Some.is (falls_same c.in-Some.range c.next_over-next-in-Some.result c.loop-next.invariant.same c.next_over-next-in-Some.ensures.falls)

pub next_over-next-requires-in-Some : goal.next_over-next-requires-in-Some
next_over-next-requires-in-Some c =
    let w = subst (λ n. IsNearest c.args.self.now c.next_over-next.new.self c.args.at c.args.after n c.loop-next.found) c.in-Some.is c.loop-next.invariant.walked in
    owner_here c.next_over-next.new.self c.args.at c.in-Some.range w.here

pub returns : goal.returns
returns c =
    let x = subst (AreIndexed c.args.self.now) (sym c.next_over-next.ensures.same) c.walk-walk.ensures in
    nearest_ends c.args.self.now c.next_over-next.new.self c.args.at c.args.after x c.loop-next.found
    (subst (λ n. IsNearest c.args.self.now c.next_over-next.new.self c.args.at c.args.after n c.loop-next.found) c.in_default.is c.loop-next.invariant.walked)
