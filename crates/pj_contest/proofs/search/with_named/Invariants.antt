use Rattle.std.proofs.Common.{◌≡◌, ◌++◌, take}
use Rattle.std.specs.Prelude.{flat_map, option_to_list}
use Rattle.pj_contest.proofs.search.with_named.Given as goal

abbrev pub invariant-loop-row : goal.invariant-loop-row
invariant-loop-row l = l.points.items ≡ l.fn.points.items ++ flat_map (λ m. option_to_list m.by) (take l.row-index l.rows)
