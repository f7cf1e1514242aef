use Rattle.std.proofs.Common.{◌≡◌, ◌+◌, ◌<◌, ◌∙◌, ◌++◌, ◌∷◌, suc, ap, sym, arith, length, take, drop, append_assoc}
use Rattle.std.specs.Prelude.{sum_by}
use Rattle.std.proofs.Math.Seq.{drop-cons}
use Rattle.std.proofs.lemmas.List.Sums.{sum_by_more}
use Rattle.pj_change.specs.Rules.{position_count}
use Rattle.pj_change.specs.Positions.{child_of}
use Rattle.pj_change.proofs.PlaceLemmas.{few_upto}
use Rattle.pj_contest.specs.Given.{child_row, child_rows_from}
use Rattle.pj_contest.proofs.given.child_rows.Goals as goal

pub with_child-requires : goal.with_child-requires
with_child-requires c =
    let low : c.loop-hunk.hunk-index < length c.items-hunk-items.result.now = c.loop-hunk-test.true in
    let few = few_upto c.args.record.now.change c.items-hunk-items.result.now c.loop-hunk.hunk-index c.hunk-item.result c.items-hunk-items.ensures c.hunk-item.is low in
    let first = c.loop-hunk.invariant.first in
    omega arith

pub overflow_add-first : goal.overflow_add-first
overflow_add-first c =
    let low : c.loop-hunk.hunk-index < length c.items-hunk-items.result.now = c.loop-hunk-test.true in
    let few = few_upto c.args.record.now.change c.items-hunk-items.result.now c.loop-hunk.hunk-index c.hunk-item.result c.items-hunk-items.ensures c.hunk-item.is low in
    let first = c.loop-hunk.invariant.first in
    let n = c.position_count.ensures in
    omega arith

pub overflow_cast-first : goal.overflow_cast-first
overflow_cast-first c =
    let low : c.loop-hunk.hunk-index < length c.items-hunk-items.result.now = c.loop-hunk-test.true in
    let few = few_upto c.args.record.now.change c.items-hunk-items.result.now c.loop-hunk.hunk-index c.hunk-item.result c.items-hunk-items.ensures c.hunk-item.is low in
    let n = c.position_count.ensures in
    omega arith

pub loop-hunk-preserved : goal.loop-hunk-preserved
loop-hunk-preserved c =
    let r = c.args.record.now in
    let i = c.loop-hunk.hunk-index in
    let hs = c.items-hunk-items.result.now in
    let h = c.hunk-item.result in
    let low : i < length hs = c.loop-hunk-test.true in
    let more : sum_by position_count (take (i + 1) hs) ≡ sum_by position_count (take i hs) + position_count h = sum_by_more position_count hs i h low ∙ ap (λ g. sum_by position_count (take i hs) + position_count g) (sym c.hunk-item.is) in
    let first = c.loop-hunk.invariant.first in
    let n = c.position_count.ensures in
    let cut : drop i hs ≡ h ∷ drop (suc i) hs = drop-cons hs i h low ∙ ap (λ g. g ∷ drop (suc i) hs) (sym c.hunk-item.is) in
    let row = child_row r c.loop-hunk.first (child_of r c.loop-hunk.first h) in
    let next : i + 1 ≡ suc i = omega arith in
    let rest = child_rows_from r (c.loop-hunk.first + position_count h) (drop (suc i) hs) in
    record {
      first = omega arith;
      rows = ap (λ xs. xs ++ child_rows_from r (c.loop-hunk.first + c.position_count.result) (drop (i + 1) hs)) c.in_ok-rows.ensures
          ∙ ap (λ m. (c.loop-hunk.rows.items ++ row) ++ child_rows_from r (c.loop-hunk.first + m) (drop (i + 1) hs)) n
          ∙ ap (λ m. (c.loop-hunk.rows.items ++ row) ++ child_rows_from r (c.loop-hunk.first + position_count h) (drop m hs)) next
          ∙ append_assoc c.loop-hunk.rows.items row rest
          ∙ ap (λ gs. c.loop-hunk.rows.items ++ child_rows_from r c.loop-hunk.first gs) (sym cut)
          ∙ c.loop-hunk.invariant.rows;
    }
