use Rattle.std.proofs.Common.{◌≡◌, ◌<◌, ◌∙◌, List, length, sym, subst, take, arith}
use Rattle.std.specs.Prelude.{Contains}
use Rattle.std.proofs.lemmas.List.{take_all}
use Rattle.pj_change.proofs.Members.{no_member}
use Rattle.pj_ranges.specs.declared.range.RangeAt.{RangeAt}
use Rattle.pj_contest.proofs.Walks.{found_more}
use Rattle.pj_contest.proofs.search.found_over.Goals as goal

pub loop-at-init : goal.loop-at-init
loop-at-init c = record {
  same = c.walk-walk.ensures;
  found = record { all = λ p m. absurd (no_member p m); last = λ b e. absurd (cc); only = λ q m. absurd (no_member q (subst (λ (xs : List RangeAt). Contains xs q) c.new-found.ensures.items m)) };
}

pub loop-at-preserved : goal.loop-at-preserved
loop-at-preserved c =
    let low : c.loop-at.at-index < length c.args.points.now = omega arith in
    record {
      same = c.with_over.ensures.same ∙ c.loop-at.invariant.same;
      found = found_more c.args.ranges.now c.args.points.now c.loop-at.at-index c.at-item.result low (sym c.at-item.is) c.loop-at.found.items _ c.loop-at.before c.first_new.result c.loop-at.invariant.found c.first_new.ensures c.in_ok-found.ensures.kept c.loop-at.invariant.same c.in_ok-found.ensures.all c.in_ok-found.ensures.only;
    }

pub returns-clause-all : goal.returns-clause-all
returns-clause-all c = λ p m.
    let whole : take c.loop-at.at-index c.args.points.now ≡ c.args.points.now = take_all _ _ (omega arith) in
    c.loop-at.invariant.found.all p (subst (λ ps. Contains ps p) (sym whole) m)

pub returns-clause-only : goal.returns-clause-only
returns-clause-only c = c.loop-at.invariant.found.only
