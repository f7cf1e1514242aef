-- A search over dead vertices.
use Rattle.std.specs.Prelude.{◌≡◌, ◌↔◌, ℕ, ◌≤◌, List, [], ◌∷◌, ◌++◌, length, take, Option, None, Contains, IsTrue}
use Rattle.std.specs.BTreeSet.{BTreeSet, contains}
use Rattle.pj_change.specs.declared.point.Point.{Point}
use Rattle.pj_change.specs.Graph.{point_cmp}
use Rattle.pj_change.specs.DeadSets.{IsDeadPath, IsEitherWay}
use Rattle.pj_dead.specs.declared.near.Way.{Way}
use Rattle.pj_dead.specs.declared.near.Way.TheVariants.{Ahead, Back, Either}
use Rattle.pj_dead.specs.declared.row.PseudoRow.{PseudoRow}
use Rattle.pj_dead.specs.PointGraphs.{PointGraph, IsEdge, IsDead, next_above}
use Rattle.pj_dead.specs.DeadRows.{AreOfOneSet}
use Rattle.pj_dead.specs.Touched.{IsRowOfSome}

-- ---- which way

-- an edge leads this way from u to v
abbrev pub IsStep : PointGraph → Way → Point → Point → Type 0
IsStep g Ahead = IsEdge g
IsStep g Back = λ u v. IsEdge g v u
IsStep g Either = IsEitherWay (IsEdge g)

-- the neighbours of a vertex this way
abbrev pub around : PointGraph → Way → Point → List Point
around g Ahead v = g.outs v
around g Back v = g.ins v
around g Either v = g.outs v ++ g.ins v

-- a path over dead vertices leads this way from u to v
abbrev pub Reaches : PointGraph → Way → Point → Point → Type 0
Reaches g way = IsDeadPath (IsStep g way) (IsDead g)

-- ---- a walk over the neighbours of a vertex

-- these were found, and this is the next one
pub record IsWalked (all list : List Point) (found : Option Point) : Type 0 where
  pub rest : List Point
  pub is : all ≡ list ++ rest
  pub next : found ≡ next_above rest None

-- ---- a search

-- no member stands twice
abbrev pub AreApart : List Point → Type 0
AreApart [] = Unit {0}
AreApart (x ∷ xs) = (Contains xs x → ⊥) × AreApart xs

-- the set has the members of the list
abbrev pub AreSeen : List Point → BTreeSet Point → Type 0
AreSeen list seen = (p : Point) → IsTrue (contains point_cmp seen p) ↔ Contains list p

-- the list goes on with some things of which P holds, and then has all of them
pub record GoesOn (P : Point → Type 0) (old new : List Point) : Type 0 where
  pub rest : List Point
  pub is : new ≡ old ++ rest
  pub only : (x : Point) → Contains rest x → P x
  pub all : (x : Point) → P x → Contains new x
  pub apart : AreApart old → AreApart new

-- some vertices that are reached, each once
pub record AreReached (g : PointGraph) (way : Way) (from : Point) (list : List Point) : Type 0 where
  pub start : Contains list from
  pub reached : (v : Point) → Contains list v → Reaches g way from v
  pub apart : AreApart list

-- the dead neighbours of the first n are members
pub record IsClosedTo (g : PointGraph) (way : Way) (list : List Point) (n : ℕ) : Type 0 where
  pub within : n ≤ length list
  pub closed : (v w : Point) → Contains (take n list) v → Contains (around g way v) w → IsDead g w → Contains list w

-- ---- the dead sets that some vertices are of

-- the rows across the dead sets of some vertices; what was seen is of one of them
pub record AreRowsOfSets (g : PointGraph) (starts seen : List Point) (rows : List PseudoRow) : Type 0 where
  pub rows_are : (row : PseudoRow) → Contains rows row ↔ IsRowOfSome g (Contains starts) row
  pub seen_are : (v : Point) → Contains seen v → (s : Point) × Contains starts s × AreOfOneSet g s v
