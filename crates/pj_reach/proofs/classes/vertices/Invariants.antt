use Rattle.std.proofs.Common.{◌≡◌, ℕ, ◌<◌, length, get_or}
use Rattle.pj_reach.proofs.classes.vertices.Given as goal

abbrev pub invariant-loop-vertex : goal.invariant-loop-vertex
invariant-loop-vertex l = record {
  len : length l.all.items ≡ l.vertex;
  each : (k : ℕ) → k < length l.all.items → get_or l.all.items k 0 ≡ k;
}
