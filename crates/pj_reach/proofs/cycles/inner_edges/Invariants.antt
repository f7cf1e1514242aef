use Rattle.std.proofs.Common.{◌≡◌, ℕ, ◌<◌, true, false, length, get_or, slice_index}
use Rattle.pj_reach.specs.Links.{source, target}
use Rattle.pj_reach.proofs.cycles.inner_edges.Given as goal

abbrev pub invariant-loop-edge : goal.invariant-loop-edge
invariant-loop-edge l = record {
  len : length l.inner.items ≡ l.classes;
  sound : (class : ℕ) → get_or l.inner.items class false ≡ true → (e : ℕ) × (e < l.edge-index) × (slice_index l.class_of (source l.edges e) ≡ class) × (slice_index l.class_of (target l.edges e) ≡ class);
  whole : (e : ℕ) → e < l.edge-index → slice_index l.class_of (source l.edges e) ≡ slice_index l.class_of (target l.edges e) → get_or l.inner.items (slice_index l.class_of (source l.edges e)) false ≡ true;
}
