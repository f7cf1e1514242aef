use Rattle.std.proofs.Common.{◌≡◌, ◌++◌, take}
use Rattle.std.specs.Prelude.{flat_map}
use Rattle.pj_change.specs.declared.point.Place.TheVariants.{At}
use Rattle.pj_change.specs.declared.graph.Label.TheVariants.{Block}
use Rattle.pj_change.specs.Positions.{resolve, own_point}
use Rattle.pj_edges.specs.OwnRows.{row_to}
use Rattle.pj_edges.proofs.own.push_ups.Given as goal

-- the rows from the first ups are there
abbrev pub invariant-loop-up : goal.invariant-loop-up
invariant-loop-up l = l.rows.items ≡ l.initial.rows.items ++ flat_map (λ up. row_to l.«record».name Block (resolve l.«record» up) (At (own_point l.«record» l.first))) (take l.up-index l.ups)
