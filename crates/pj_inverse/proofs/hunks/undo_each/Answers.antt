use Rattle.std.proofs.Common.{◌≡◌, ◌+◌, ◌∷◌, ◌++◌, [], take, arith, sym, ap, subst}
use Rattle.std.specs.Prelude.{sum_by}
use Rattle.std.proofs.lemmas.List.Sums.{sum_by_more}
use Rattle.pj_change.specs.Rules.{position_count}
use Rattle.pj_change.specs.Inverse.{UndoEach, Undoes}
use Rattle.pj_change.specs.Inverse.IsInverseNeed.{itself}
use Rattle.pj_change.proofs.PlaceLemmas.{few_upto}
use Rattle.pj_inverse.proofs.UndoneHunks.{undo_more, take_item}
use Rattle.pj_inverse.proofs.hunks.undo_each.Goals as goal

pub number_of-itself-requires-clause-there : goal.number_of-itself-requires-clause-there
number_of-itself-requires-clause-there c = c.requires.needs.all c.args.record.now.name itself

pub undoing-requires-clause-fits : goal.undoing-requires-clause-fits
undoing-requires-clause-fits c =
    omega (arith, c.loop-hunk.invariant.first, few_upto c.args.record.now.change c.items-hunk-items.result.now c.loop-hunk.hunk-index c.hunk-item.result c.items-hunk-items.ensures c.hunk-item.is c.loop-hunk-test.true)

pub overflow_add-first : goal.overflow_add-first
overflow_add-first c =
    omega (arith, c.loop-hunk.invariant.first, c.position_count.ensures, few_upto c.args.record.now.change c.items-hunk-items.result.now c.loop-hunk.hunk-index c.hunk-item.result c.items-hunk-items.ensures c.hunk-item.is c.loop-hunk-test.true)

pub loop-hunk-preserved : goal.loop-hunk-preserved
loop-hunk-preserved c =
    let hunks = c.items-hunk-items.result.now in
    let i = c.loop-hunk.hunk-index in
    let h = c.hunk-item.result in
    let r = c.args.record.now in
    let needs = c.args.needs.now in
    let first = c.loop-hunk.invariant.first in
    let more = undo_more r needs 0 (take i hunks) c.loop-hunk.hunks.items h c.in_ok-undoing.field-0 c.loop-hunk.invariant.undone
    (subst (λ n. Undoes r needs n h c.in_ok-undoing.field-0) (let e : c.loop-hunk.first ≡ 0 + sum_by position_count (take i hunks) = omega (arith, first) in e) c.in_ok-undoing.ensures) in
    record {
      first = omega (arith, first, c.position_count.ensures, sum_by_more position_count hunks i h c.loop-hunk-test.true, ap position_count c.hunk-item.is);
      undone = subst (λ hs. UndoEach r needs 0 hs c.push.new.self.items) (sym (take_item hunks i h c.loop-hunk-test.true c.hunk-item.is))
          (subst (λ gs. UndoEach r needs 0 (take i hunks ++ h ∷ []) gs) (sym c.in_ok-push.ensures.items) more);
    }
