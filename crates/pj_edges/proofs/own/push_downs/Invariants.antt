use Rattle.std.proofs.Common.{◌≡◌, ◌++◌, take}
use Rattle.std.specs.Prelude.{flat_map}
use Rattle.pj_change.specs.declared.point.Place.TheVariants.{At}
use Rattle.pj_change.specs.declared.graph.Label.TheVariants.{Order}
use Rattle.pj_change.specs.Positions.{resolve, own_point}
use Rattle.pj_edges.specs.OwnRows.{row_to}
use Rattle.pj_edges.proofs.own.push_downs.Given as goal

-- the rows to the first downs are there
abbrev pub invariant-loop-down : goal.invariant-loop-down
invariant-loop-down l = l.rows.items ≡ l.initial.rows.items ++ flat_map (λ down. row_to l.«record».name Order (At (own_point l.«record» l.last)) (resolve l.«record» down)) (take l.down-index l.downs)
