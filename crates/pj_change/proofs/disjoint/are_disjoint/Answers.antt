use Rattle.std.proofs.Common.{◌≡◌, true, take, sym, ◌∙◌}
use Rattle.std.specs.List.{list_all}
use Rattle.pj_change.specs.Rules.{apart}
use Rattle.pj_change.proofs.DisjointLemmas.{each_pair_step, each_pair_stop, all_apart, ends_by_step}
use Rattle.pj_change.proofs.disjoint.are_disjoint.Goals as goal
use Rattle.pj_change.proofs.disjoint.are_disjoint.Goals.{else-not-is_behind-via-then-not-is_behind+else-not-is_apart_from, else-not-is_behind-via-else-not-is_behind}

pub returns-then-not-is_apart_from : goal.returns-then-not-is_apart_from
returns-then-not-is_apart_from c =
    each_pair_stop apart c.args.hunks.now c.loop-number.number c.index-hunks-number.result c.loop-number-test.true c.index-hunks-number.is
    c.loop-number.invariant.disjoint (sym c.is_apart_from.ensures ∙ c.if-not-is_apart_from.true)

pub loop-number-preserved : goal.loop-number-preserved
loop-number-preserved c =
    let apart_from : list_all (λ g. apart g c.index-hunks-number.result) (take c.loop-number.number c.args.hunks.now) ≡ true = elim c.else-not-is_behind.branch [
      | else-not-is_behind-via-then-not-is_behind+else-not-is_apart_from w ↦ sym w.is_apart_from.ensures ∙ w.if-not-is_apart_from.false
      | else-not-is_behind-via-else-not-is_behind w ↦
          all_apart c.loop-number.reach.owner c.loop-number.reach.end (take c.loop-number.number c.args.hunks.now) c.index-hunks-number.result c.loop-number.invariant.reach (sym c.is_behind.ensures ∙ w.if-not-is_behind.false)
    ] in
    record {
      disjoint = each_pair_step apart c.args.hunks.now c.loop-number.number c.index-hunks-number.result _ c.loop-number-test.true c.index-hunks-number.is
          c.loop-number.invariant.disjoint apart_from;
      reach = ends_by_step c.loop-number.reach.owner c.loop-number.reach.end c.reach_with-reach.result.owner c.reach_with-reach.result.end c.args.hunks.now c.loop-number.number
          c.index-hunks-number.result c.loop-number-test.true c.index-hunks-number.is c.loop-number.invariant.reach c.reach_with-reach.ensures.earlier c.reach_with-reach.ensures.hunk;
    }
