use Rattle.std.proofs.Common.{◌∙◌, ap, ◌+◌}
use Rattle.pj_cuts.specs.Counted.{cut_cmp, key}
use Rattle.pj_rows.specs.Keys.{number_at}
use Rattle.pj_cuts.proofs.CutOrder.{times_only}
use Rattle.pj_cuts.proofs.Kept.{counts_change}
use Rattle.pj_cuts.proofs.cuts.Cuts.add.Goals as goal

pub invariant_of-result : goal.invariant_of-result
invariant_of-result g c = (counts_change c.self.inside.counts _ c.self.inside.blocks c.self.invariant c.in_ok-counts.ensures.counted)

pub returns-clause-counts : goal.returns-clause-counts
returns-clause-counts g c p = rw (← c.self.view_is) (c.in_ok-counts.ensures.counts (key p) ∙ ap (λ n. number_at cut_cmp (key p) c.self.inside.counts + n) (times_only c.args.at p))
