use Rattle.std.proofs.Common.{length, ◌∙◌, ap}
use Rattle.std.proofs.lemmas.List.FromFn.{length-map-range_with_len}
use Rattle.pj_bits.specs.Matrix.{size as size_of}
use Rattle.pj_layout.specs.Counts.{predecessors}
use Rattle.std.specs.List.{range_with_len}
use Rattle.pj_layout.proofs.order.Order.of.Goals as goal

pub invariant_of-result : goal.invariant_of-result
invariant_of-result c = record {
  prepared = record {
    strict = c.requires;
    after_size = c.in_ok-after.ensures.size;
    turned = c.in_ok-after.ensures.turned;
    ranked = ap length c.in_ok-ranks.ensures.counted ∙ length-map-range_with_len (predecessors c.args.before.now (range_with_len 0 (size_of c.args.before.now))) 0 (size_of c.args.before.now);
    rising = c.in_ok-ranks.ensures.rising;
  };
}
