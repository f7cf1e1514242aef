use Rattle.std.proofs.Common.{◌∙◌, ◌+◌, ap}
use Rattle.pj_rows.specs.Keys.{number_at}
use Rattle.pj_pmap.specs.Pairs.{value_at}
use Rattle.pj_cuts.specs.Counted.{cut_cmp, key, extent}
use Rattle.pj_change.specs.CutCounts.{cuts_by}
use Rattle.pj_cuts.proofs.SetTables.{one_more}
use Rattle.pj_cuts.proofs.cuts.Cuts.with_change.Goals as goal

pub returns-clause-counts : goal.returns-clause-counts
returns-clause-counts g c = λ p.
    (rw (c.as_slice.ensures.value, c.in_ok-points.ensures) at c.in_ok-all.ensures.counts) p
    ∙ ap (λ es. number_at cut_cmp (key p) es + cuts_by c.args.«record».now p) c.in_ok-blocks.ensures.counts

pub returns-clause-blocks : goal.returns-clause-blocks
returns-clause-blocks g c = λ p. ap (λ es. extent (value_at cut_cmp (key p) es)) c.in_ok-all.ensures.blocks ∙ c.in_ok-blocks.ensures.blocks p

pub returns-clause-set : goal.returns-clause-set
returns-clause-set g c = one_more c.args.self _ c.args.«record».now (returns-clause-counts g c) (returns-clause-blocks g c)
