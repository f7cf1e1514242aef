-- What the tables say of a point: the text that has it, and the next row out of a place or into a point.
use Rattle.std.specs.Prelude.{◌≡◌, ◌≢◌, ℕ, ◌-◌, ◌<◌, ◌≤◌, true, List, Option, None, Some, IsTrue}
use Rattle.std.specs.declared.cmp.Ordering.TheVariants.{Less}
use Rattle.pj_change.specs.declared.point.Point.{Point}
use Rattle.pj_change.specs.declared.point.Place.{Place}
use Rattle.pj_change.specs.declared.row.EdgeRow.{EdgeRow}
use Rattle.pj_change.specs.declared.graph.Vertex.{Vertex}
use Rattle.pj_change.specs.declared.graph.VertexKind.TheVariants as vertex_kind
use Rattle.pj_change.specs.declared.change.Record.{Record}
use Rattle.pj_change.specs.Graph.{point_cmp, place_cmp}
use Rattle.pj_change.specs.PointsIn.{LiesIn}
use Rattle.pj_change.specs.Vertices.{IsVertex}
use Rattle.pj_cuts.specs.Counted.{at_offset}
use Rattle.pj_dead.specs.PointGraphs.{is_above}
use Rattle.pj_edges.specs.Rows.{Rows, has_row}
use Rattle.pj_outline.specs.Ends.{text_vertex}

-- ---- text

-- the vertex of text from start up to end has the point
pub record IsTextFrom (S : List Record) (p : Point) (start end : ℕ) : Type 0 where
  pub vertex : IsVertex S (text_vertex S p.change start end)
  pub from : start ≤ p.offset
  pub upto : p.offset < end

-- no vertex of text has it
abbrev pub IsNoText : List Record → Point → Type 0
IsNoText S p = (v : Vertex) → IsVertex S v → v.kind ≡ vertex_kind.Text → LiesIn p v → ⊥

-- the last point of the text that has the point, or the point itself where no text has it
pub data IsLastOf (S : List Record) (p : Point) : Point → Type 0 where
  of_text : {start end : ℕ} → IsTextFrom S p start end → IsLastOf S p (at_offset p.change (end - 1))
  of_none : IsNoText S p → IsLastOf S p p

-- ---- rows

-- above the place, if there is one
abbrev pub IsBehind : Option Place → Place → Type 0
IsBehind None q = Unit {0}
IsBehind (Some p) q = place_cmp p q ≡ Less

-- no row leads from the place to a point above this one
abbrev pub IsNoTarget : Rows → Place → Option Point → Type 0
IsNoTarget e source after = (row : EdgeRow) → has_row e row ≡ true → row.source ≡ source → IsTrue (is_above after row.target) → ⊥

-- the least point above this one to which a row leads from the place
pub record IsNextTarget (e : Rows) (source : Place) (after : Option Point) (target : Point) : Type 0 where
  pub row : EdgeRow
  pub there : has_row e row ≡ true
  pub from : row.source ≡ source
  pub to : row.target ≡ target
  pub above : IsTrue (is_above after target)
  pub least : (other : EdgeRow) → has_row e other ≡ true → other.source ≡ source → IsTrue (is_above after other.target) → point_cmp other.target target ≢ Less

-- no row leads to the point from a place above this one
abbrev pub IsNoSource : Rows → Point → Option Place → Type 0
IsNoSource e target after = (row : EdgeRow) → has_row e row ≡ true → row.target ≡ target → IsBehind after row.source → ⊥

-- the least place above this one from which a row leads to the point
pub record IsNextSource (e : Rows) (target : Point) (after : Option Place) (source : Place) : Type 0 where
  pub row : EdgeRow
  pub there : has_row e row ≡ true
  pub from : row.source ≡ source
  pub to : row.target ≡ target
  pub above : IsBehind after source
  pub least : (other : EdgeRow) → has_row e other ≡ true → other.target ≡ target → IsBehind after other.source → place_cmp other.source source ≢ Less
