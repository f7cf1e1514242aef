use Rattle.std.proofs.Common.{◌<◌, ◌∙◌, sym, subst, Some}
use Rattle.std.specs.Prelude.{Option}
use Rattle.pj_ranges.specs.declared.range.RangeAt.{RangeAt}
use Rattle.pj_ranges.specs.Over.{left_from}
use Rattle.pj_ranges.proofs.Walked.{step_same, falls_same}
use Rattle.pj_contest.proofs.Walks.{IsWalked, walk_begins, walk_goes, walk_ends, walk_owner, walk_less}
use Rattle.pj_contest.proofs.search.with_over.Goals as goal

pub loop-next-init : goal.loop-next-init
loop-next-init c = record {
  same = c.next_over-next.ensures.same;
  walked = walk_begins c.args.walk.now c.args.at c.args.from c.args.found.items c.next_over-next.result c.next_over-next.ensures.next;
}

pub next_over-next-requires-in-Some : goal.next_over-next-requires-in-Some
next_over-next-requires-in-Some c =
    let was = subst (λ (o : Option RangeAt). IsWalked c.args.walk.now c.args.at c.args.from c.args.found.items c.loop-next.found.items o) c.in-Some.is c.loop-next.invariant.walked in
    c.bound.ensures.owner ∙ walk_owner c.args.walk.now c.args.at c.args.from c.args.found.items c.loop-next.found.items c.in-Some.range was

pub loop-next-preserved : goal.loop-next-preserved
loop-next-preserved c =
    let was = subst (λ (o : Option RangeAt). IsWalked c.args.walk.now c.args.at c.args.from c.args.found.items c.loop-next.found.items o) c.in-Some.is c.loop-next.invariant.walked in
    record {
      same = c.next_over-next-in-Some.ensures.same ∙ c.loop-next.invariant.same;
      walked = walk_goes c.args.walk.now c.args.at c.args.from c.args.found.items c.loop-next.found.items _ c.in-Some.range c.bound.result c.next_over-next-in-Some.result was c.in_ok-found.ensures.kept c.in_ok-found.ensures.one c.in_ok-found.ensures.only c.bound.ensures.skips
          (step_same c.args.at (Some c.bound.result) c.next_over-next-in-Some.result c.loop-next.invariant.same c.next_over-next-in-Some.ensures.next);
    }

pub loop-next-smaller : goal.loop-next-smaller
loop-next-smaller c =
    subst (λ (o : Option RangeAt). left_from c.args.walk.now c.next_over-next-in-Some.result < left_from c.args.walk.now o) (sym c.in-Some.is)
    (walk_less c.args.walk.now c.in-Some.range c.bound.result c.next_over-next-in-Some.result c.bound.ensures.keeps (falls_same c.bound.result c.next_over-next-in-Some.result c.loop-next.invariant.same c.next_over-next-in-Some.ensures.falls))

pub returns-clause-kept : goal.returns-clause-kept
returns-clause-kept c = c.loop-next.invariant.walked.kept

pub returns-clause-all : goal.returns-clause-all
returns-clause-all c = λ q there over low. walk_ends c.args.walk.now c.args.at c.args.from c.args.found.items c.loop-next.found.items c.loop-next.next c.loop-next.invariant.walked c.in_default.not-Some q there over low

pub returns-clause-only : goal.returns-clause-only
returns-clause-only c = c.loop-next.invariant.walked.only
