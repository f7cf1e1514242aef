use Rattle.pj_context.proofs.ReferenceLemmas.{refers_within_at}
use Rattle.pj_context.proofs.range.end_of_cover.Goals as goal

pub end_covering-requires : goal.end_covering-requires
end_covering-requires c = refers_within_at c.args.by.now c.items-hunk-items.result.now c.loop-hunk.hunk-index c.hunk-item.result c.items-hunk-items.ensures c.loop-hunk-test.true c.hunk-item.is
