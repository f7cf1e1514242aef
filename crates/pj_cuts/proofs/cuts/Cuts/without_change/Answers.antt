use Rattle.std.proofs.Common.{◌∙◌, ◌+◌, ap}
use Rattle.pj_rows.specs.Keys.{number_at}
use Rattle.pj_pmap.specs.Pairs.{value_at}
use Rattle.pj_change.specs.CutCounts.{cuts_by}
use Rattle.pj_cuts.specs.Counted.{cut_cmp, key, extent, at_offset}
use Rattle.pj_cuts.proofs.SetTables.{one_less}
use Rattle.pj_cuts.proofs.cuts.Cuts.without_change.Goals as goal

pub without_cuts-requires : goal.without_cuts-requires
without_cuts-requires g c = rw (c.as_slice.ensures.value, c.in_ok-points.ensures) c.requires.cuts

pub without_blocks-requires : goal.without_blocks-requires
without_blocks-requires g c = λ at. ap (λ es. extent (value_at cut_cmp (key (at_offset c.args.«record».now.name at)) es)) c.in_ok-uncut.ensures.blocks ∙ c.requires.blocks at

pub returns-clause-counts : goal.returns-clause-counts
returns-clause-counts g c = λ p.
    ap (λ es. number_at cut_cmp (key p) es + cuts_by c.args.«record».now p) c.in_ok-left.ensures.counts
    ∙ (rw (c.as_slice.ensures.value, c.in_ok-points.ensures) at c.in_ok-uncut.ensures.counts) p

pub returns-clause-blocks : goal.returns-clause-blocks
returns-clause-blocks g c = λ p. c.in_ok-left.ensures.blocks p ∙ ap (λ es. extent (value_at cut_cmp (key p) es)) c.in_ok-uncut.ensures.blocks

pub returns-clause-set : goal.returns-clause-set
returns-clause-set g c = one_less c.args.self _ c.args.«record».now (returns-clause-counts g c) (returns-clause-blocks g c)
