use Rattle.std.proofs.Common.{◌≡◌, ◌+◌, ◌<◌, [], All}
use Rattle.pj_book.specs.Token.{own}
use Rattle.bench.proofs.book.threads.passes_for.Given as goal

abbrev pub invariant-loop : goal.invariant-loop
invariant-loop g l = record {
  made : l.book ≡ l.initial.book + l.counter;
  fresh : All (λ p. (0 < p.number) × (p.calls ≡ 0) × (own p ≡ [])) l.passes.items;
  number : l.zero.number ≡ l.initial.zero.number;
  own : own l.zero ≡ own l.initial.zero;
}
