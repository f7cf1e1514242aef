use Rattle.std.proofs.Common.{◌<◌, length, subst, sym}
use Rattle.std.specs.Prelude.{Contains}
use Rattle.pj_contest.proofs.given.deleted_ranges.Goals as goal

pub with_range-requires : goal.with_range-requires
with_range-requires c =
    let low : c.loop-number.number < length c.items-hunk-items.result.now = c.loop-number-test.true in
    subst (λ hs. Contains hs c.hunk-item.result) c.items-hunk-items.ensures (c.loop-number.number, low, sym c.hunk-item.is)
