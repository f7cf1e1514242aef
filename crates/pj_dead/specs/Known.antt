-- What is known of a graph.
use Rattle.std.specs.Prelude.{◌≡◌, ◌↔◌, Bool, List, ◌++◌, Some, Contains}
use Rattle.std.specs.BTreeMap.{get}
use Rattle.pj_change.specs.declared.point.Point.{Point}
use Rattle.pj_change.specs.Graph.{point_cmp}
use Rattle.pj_dead.specs.declared.near.Way.{Way}
use Rattle.pj_dead.specs.declared.near.Way.TheVariants.{Ahead, Back, Either}
use Rattle.pj_dead.specs.declared.known.Sides.{Sides}
use Rattle.pj_dead.specs.declared.known.Neighbours.{Neighbours}
use Rattle.pj_dead.specs.declared.known.Known.{Known}
use Rattle.pj_dead.specs.PointGraphs.{PointGraph, IsDead, IsLive}

-- the live ones and the dead ones of some vertices
pub record AreSides (g : PointGraph) (points : List Point) (sides : Sides) : Type 0 where
  pub live : (v : Point) → Contains sides.live.items v ↔ (Contains points v × IsLive g v)
  pub dead : (v : Point) → Contains sides.dead.items v ↔ (Contains points v × IsDead g v)

-- the neighbours of a vertex
pub record AreNeighbours (g : PointGraph) (at : Point) (n : Neighbours) : Type 0 where
  pub outs : AreSides g (g.outs at) n.outs
  pub ins : AreSides g (g.ins at) n.ins

-- the dead neighbours this way
abbrev pub dead_around : Way → Neighbours → List Point
dead_around Ahead n = n.outs.dead.items
dead_around Back n = n.ins.dead.items
dead_around Either n = n.outs.dead.items ++ n.ins.dead.items

-- it is so in the graph
pub record AreKnown (g : PointGraph) (known : Known) : Type 0 where
  pub neighbours : (v : Point) (n : Neighbours) → get point_cmp known.neighbours v ≡ Some n → AreNeighbours g v n
  pub dead : (v : Point) (b : Bool) → get point_cmp known.dead v ≡ Some b → b ≡ g.dead v
