use Rattle.std.proofs.Common.{◌∙◌, sym, subst, refl, true, false, Some, None}
use Rattle.pj_ranges.specs.declared.range.HunkAt.{HunkAt}
use Rattle.pj_states.specs.Rows.{said_by, said_has_by}
use Rattle.pj_ranges.proofs.Walked.{step_same, falls_same}
use Rattle.pj_states.specs.Index.{AreIndexed}
use Rattle.pj_states.proofs.OtherNames.{not_overruled}
use Rattle.pj_states.proofs.Walked.{IsWalked, walk_starts, walk_goes, walk_ends, over_passes, owner_here, survives_found}
use Rattle.pj_states.proofs.versions.Versions.survives.Goals as goal

pub returns-then-not-is_overruled : goal.returns-then-not-is_overruled
returns-then-not-is_overruled c =
    let x = subst (λ rows. AreIndexed rows c.self.inside.ranges) c.self.view_is c.self.invariant.0 in
    not_overruled c.args.self.now x.rising c.args.name c.is_overruled.result (c.is_overruled.ensures) c.if-not-is_overruled.true c.args.at

pub loop-next-init : goal.loop-next-init
loop-next-init c = record {
  same = refl;
  walked = walk_starts c.next_over-next.new.self c.args.at (λ (k : HunkAt). said_has_by (said_by k c.args.self.now) c.args.name) c.next_over-next.result (step_same c.args.at None c.next_over-next.result (sym c.next_over-next.ensures.same) c.next_over-next.ensures.next);
}

pub loop-next-preserved : goal.loop-next-preserved
loop-next-preserved c = record {
  same = c.next_over-next-in-Some.ensures.same ∙ c.loop-next.invariant.same;
  walked = walk_goes c.next_over-next.new.self c.args.at (λ (k : HunkAt). said_has_by (said_by k c.args.self.now) c.args.name) c.in-Some.range c.next_over-next-in-Some.result false false
      (subst (λ n. IsWalked c.next_over-next.new.self c.args.at (λ (k : HunkAt). said_has_by (said_by k c.args.self.now) c.args.name) n false) c.in-Some.is c.loop-next.invariant.walked)
      (step_same c.args.at (Some c.in-Some.range) c.next_over-next-in-Some.result c.loop-next.invariant.same c.next_over-next-in-Some.ensures.next) (sym c.if-is_by.false ∙ c.is_by.ensures);
}

pub loop-next-smaller : goal.loop-next-smaller
loop-next-smaller c = rw c.in-Some.is (falls_same c.in-Some.range c.next_over-next-in-Some.result c.loop-next.invariant.same c.next_over-next-in-Some.ensures.falls)

pub next_over-next-requires-in-Some : goal.next_over-next-requires-in-Some
next_over-next-requires-in-Some c =
    let w = subst (λ n. IsWalked c.next_over-next.new.self c.args.at (λ (k : HunkAt). said_has_by (said_by k c.args.self.now) c.args.name) n false) c.in-Some.is c.loop-next.invariant.walked in
    owner_here c.next_over-next.new.self c.args.at c.in-Some.range w.here

pub returns-then-is_by : goal.returns-then-is_by
returns-then-is_by c =
    let x = subst (AreIndexed c.args.self.now) (sym c.next_over-next.ensures.same) c.walk-walk.ensures in
    let w = subst (λ n. IsWalked c.next_over-next.new.self c.args.at (λ (k : HunkAt). said_has_by (said_by k c.args.self.now) c.args.name) n false) c.in-Some.is c.loop-next.invariant.walked in
    survives_found c.args.self.now c.next_over-next.new.self x c.args.at c.args.name true
    (sym (over_passes c.args.self.now c.next_over-next.new.self x c.args.at (λ (k : HunkAt). said_has_by (said_by k c.args.self.now) c.args.name) c.in-Some.range w.here (sym c.is_by.ensures ∙ c.if-is_by.true)))

pub returns : goal.returns
returns c =
    let x = subst (AreIndexed c.args.self.now) (sym c.next_over-next.ensures.same) c.walk-walk.ensures in
    survives_found c.args.self.now c.next_over-next.new.self x c.args.at c.args.name false
    (walk_ends c.args.self.now c.next_over-next.new.self x c.args.at (λ (k : HunkAt). said_has_by (said_by k c.args.self.now) c.args.name) false
    (subst (λ n. IsWalked c.next_over-next.new.self c.args.at (λ (k : HunkAt). said_has_by (said_by k c.args.self.now) c.args.name) n false) c.in_default.is c.loop-next.invariant.walked))
