use Rattle.std.proofs.Common.{◌≡◌, ℕ, suc, ◌<◌, true, false, length, get_or, slice_index}
use Rattle.pj_reach.specs.Links.{source, target}
use Rattle.pj_print.proofs.only_order.joined_to_next.Given as goal

abbrev pub invariant-loop-edge : goal.invariant-loop-edge
invariant-loop-edge l = record {
  len : length l.joined.items ≡ l.size;
  joined : (at : ℕ) → get_or l.joined.items at false ≡ true → (e : ℕ) × (e < l.edge-index) × (slice_index l.places (source l.edges e) ≡ at) × (slice_index l.places (target l.edges e) ≡ suc at);
}
