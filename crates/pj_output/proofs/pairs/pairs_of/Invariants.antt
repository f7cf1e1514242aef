use Rattle.std.proofs.Common.{◌≡◌, []}
use Rattle.pj_change.specs.Gathers.{Gathers, IsOfNumber}
use Rattle.pj_output.specs.Pairs.{IsPairFrom}
use Rattle.pj_output.proofs.pairs.pairs_of.Given as goal

-- the walk has the rows that it had, and the pairs from the first vertices are added
abbrev pub invariant-loop-from : goal.invariant-loop-from
invariant-loop-from l = record {
  same : l.walk ≡ l.initial.walk;
  pairs : Gathers (IsOfNumber (IsPairFrom l.tables l.pseudo l.live) l.from) [] l.pairs.items;
}
