use Rattle.std.proofs.Common.{sym}
use Rattle.pj_outline.proofs.inner.inner_rows.Goals as goal

pub inner_row-requires : goal.inner_row-requires
inner_row-requires c = c.requires c.point-item.result (c.loop-point.point-index, c.loop-point-test.true, sym c.point-item.is)
