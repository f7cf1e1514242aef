use Rattle.std.proofs.Common.{◌≡◌, [], map, All, length}
use Rattle.pj_marks.specs.Grouped.{IsGrouped}
use Rattle.pj_marks.proofs.members.members.Given as goal

abbrev pub invariant-loop : goal.invariant-loop
invariant-loop l = record {
  each : length l.members.items ≡ l.counter;
  empty : All (λ class. class.items ≡ []) l.members.items;
}

abbrev pub invariant-loop-at : goal.invariant-loop-at
invariant-loop-at l = IsGrouped l.reached l.at (map (λ class. class.items) l.members.items)
