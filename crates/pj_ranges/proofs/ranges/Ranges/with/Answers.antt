use Rattle.std.proofs.Common.{◌∙◌, ap}
use Rattle.pj_ranges.specs.Units.{range_cmp}
use Rattle.pj_ranges.specs.Over.{has_range}
use Rattle.pj_rows.proofs.KeyLemmas.{has-with}
use Rattle.pj_ranges.proofs.RangeOrder.{range_total}
use Rattle.pj_ranges.proofs.Kept.{kept_with}
use Rattle.pj_ranges.proofs.ranges.Ranges.with.Goals as goal

pub invariant_of-result : goal.invariant_of-result
invariant_of-result g c =
    kept_with c.self.inside.rows c.in_ok-rows.rows c.args.range c.self.invariant c.in_ok-rows.ensures.rising c.requires
    (λ q. ap (λ es. has_range es q) c.in_ok-rows.ensures.same ∙ has-with range_cmp range_total q c.args.range _ c.self.inside.rows)

pub returns-clause-ranges : goal.returns-clause-ranges
returns-clause-ranges g c = λ q. rw (c.in_ok-rows.ensures.same, ← c.self.view_is) (has-with range_cmp range_total q c.args.range _ c.self.inside.rows)
