use Rattle.std.proofs.Common.{◌≡◌, ◌∙◌, ap, sym, arith, ◌<◌, ◌&&◌, not, length, take}
use Rattle.std.proofs.lemmas.List.{take_all}
use Rattle.pj_ranges.specs.Units.{range_cmp}
use Rattle.pj_ranges.specs.Over.{has_range}
use Rattle.pj_rows.specs.Keys.{is_among}
use Rattle.pj_rows.proofs.KeyLemmas.{one_less, among-more}
use Rattle.pj_contest.proofs.indexes.without_ranges.Goals as goal

pub loop-range-preserved : goal.loop-range-preserved
loop-range-preserved g c =
    let low : c.loop-range.range-index < length c.args.gone.now = omega arith in
    record {
      rows = λ q. one_less _ _ _ _ _ (c.in_ok-now.ensures.ranges q) (c.loop-range.invariant.rows q)
          ∙ ap (λ b. not b && has_range c.args.ranges q) (sym (among-more range_cmp q c.args.gone.now c.loop-range.range-index c.range-item.result low (sym c.range-item.is)));
      cost = let e = c.in_ok-now.ensures.cost in let i = c.loop-range.invariant.cost in omega arith;
    }

pub returns-clause-rows : goal.returns-clause-rows
returns-clause-rows g c =
    let whole : take c.loop-range.range-index c.args.gone.now ≡ c.args.gone.now = take_all _ _ (omega arith) in
    λ q. c.loop-range.invariant.rows q ∙ ap (λ ks. not (is_among range_cmp q ks) && has_range c.args.ranges q) whole
