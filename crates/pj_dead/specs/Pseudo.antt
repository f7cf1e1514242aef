-- The rows that a map holds.
use Rattle.std.specs.Prelude.{◌≡◌, ◌↔◌, ◌≢◌, List, IsTrue, Option, ◌<◌, ◌^◌}
use Rattle.std.specs.Ordering.{ordering_then}
use Rattle.std.specs.declared.cmp.Ordering.{Ordering}
use Rattle.std.specs.declared.cmp.Ordering.TheVariants.{Less}
use Rattle.pj_name.specs.Name.{no_name}
use Rattle.pj_change.specs.declared.point.Point.{Point}
use Rattle.pj_change.specs.Graph.{point_cmp}
use Rattle.pj_rows.specs.declared.values.Here.{Here}
use Rattle.pj_rows.specs.Keys.{has}
use Rattle.pj_dead.specs.declared.row.PseudoRow.{PseudoRow}
use Rattle.pj_dead.specs.PointGraphs.{PointGraph, is_above}
use Rattle.pj_dead.specs.DeadRows.{IsRow}

-- by source, then by target, then by least point
abbrev pub row_cmp : PseudoRow → PseudoRow → Ordering
row_cmp a b = ordering_then (point_cmp a.source b.source) (ordering_then (point_cmp a.target b.target) (point_cmp a.least b.least))

-- the map has the row
abbrev pub HasRow : List (PseudoRow × Here) → PseudoRow → Type 0
HasRow rows row = IsTrue (has row_cmp row rows)

-- it has the rows of the graph, and no others
abbrev pub AreRowsOf : PointGraph → List (PseudoRow × Here) → Type 0
AreRowsOf g rows = (row : PseudoRow) → HasRow rows row ↔ IsRow g row

-- ---- from one source

-- some row leads from the source to the target
pub record Leads (rows : List (PseudoRow × Here)) (source target : Point) : Type 0 where
  pub least : Point
  pub there : HasRow rows (record { source = source; target = target; least = least })

-- no row leads from the source to a target above the point
abbrev pub IsNoTarget : List (PseudoRow × Here) → Point → Option Point → Type 0
IsNoTarget rows source after = (q : Point) → Leads rows source q → IsTrue (is_above after q) → ⊥

-- the least such target
pub record IsNextTarget (rows : List (PseudoRow × Here)) (source : Point) (after : Option Point) (target : Point) : Type 0 where
  pub leads : Leads rows source target
  pub above : IsTrue (is_above after target)
  pub first : (q : Point) → Leads rows source q → IsTrue (is_above after q) → point_cmp q target ≢ Less

-- ---- by key

-- before every other point
abbrev pub least_point : Point
least_point = record { change = no_name; offset = 0 }

-- no row of the key's source is above the key
abbrev pub IsNoneAbove : List (PseudoRow × Here) → PseudoRow → Type 0
IsNoneAbove rows key = (row : PseudoRow) → HasRow rows row → row.source ≡ key.source → row_cmp key row ≡ Less → ⊥

-- the target of the first row of the key's source that is above the key
pub record IsFirstAbove (rows : List (PseudoRow × Here)) (key : PseudoRow) (target : Point) : Type 0 where
  pub least : Point
  pub small : least.offset < 2 ^ 32
  pub there : HasRow rows (record { source = key.source; target = target; least = least })
  pub above : row_cmp key (record { source = key.source; target = target; least = least }) ≡ Less
  pub first : (row : PseudoRow) → HasRow rows row → row.source ≡ key.source → row_cmp key row ≡ Less → point_cmp row.target target ≢ Less
