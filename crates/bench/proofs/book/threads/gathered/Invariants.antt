use Rattle.std.proofs.Common.{◌≡◌, ◌∷◌, map, Some}
use Rattle.bench.proofs.book.threads.gathered.Given as goal

abbrev pub invariant-loop-worker : goal.invariant-loop-worker
invariant-loop-worker g l = map Some l.passes.items ≡ Some l.fn.zero ∷ l.yielded
