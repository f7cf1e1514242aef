-- The real edges of a set S (labelled edges with introducers are Pijul's). Equal edges count once.
use Rattle.std.specs.Prelude.{◌≡◌, ℕ, ◌+◌, ◌-◌, ◌<◌, IsTrue, List, length, Some, Contains, ◌⊎◌, slice_get}
use Rattle.pj_change.specs.declared.point.Place.{Place}
use Rattle.pj_change.specs.declared.point.Place.TheVariants as placed
use Rattle.pj_change.specs.declared.point.Ref.{Ref}
use Rattle.pj_change.specs.declared.hunk.Hunk.{Hunk}
use Rattle.pj_change.specs.declared.hunk.Hunk.TheVariants.{File, Dir, NameOf, Insert, Order, Delete, Revive}
use Rattle.pj_change.specs.declared.graph.Status.TheVariants.{Alive}
use Rattle.pj_change.specs.declared.graph.Label.TheVariants as label
use Rattle.pj_change.specs.declared.graph.Edge.{Edge}
use Rattle.pj_change.specs.declared.change.Record.{Record}
use Rattle.pj_change.specs.Positions.{place, resolve, own_point}
use Rattle.pj_change.specs.Status.{status_of}
use Rattle.pj_change.specs.Vertices.{is_cut}

-- to the text at a position of r, with the status of that text
pub record IsBlock (S : List Record) (r : Record) (source : Place) (offset : ℕ) (e : Edge) : Type 0 where
  pub from : e.source ≡ source
  pub to : e.target ≡ own_point r offset
  pub block : e.label ≡ label.Block
  pub of_target : e.status ≡ status_of S (own_point r offset)
  pub by : e.introducer ≡ r.name

-- a place is before another one, as r says
pub record IsOrder (r : Record) (source target : Place) (e : Edge) : Type 0 where
  pub from : e.source ≡ source
  pub to : placed.At e.target ≡ target
  pub order : e.label ≡ label.Order
  pub alive : e.status ≡ Alive
  pub by : e.introducer ≡ r.name

-- into or out of the name at a position of r, with the status of that name
pub record IsFolder (S : List Record) (r : Record) (offset : ℕ) (source target : Place) (e : Edge) : Type 0 where
  pub from : e.source ≡ source
  pub to : placed.At e.target ≡ target
  pub folder : e.label ≡ label.Folder
  pub of_name : e.status ≡ status_of S (own_point r offset)
  pub by : e.introducer ≡ r.name

-- from the parent to the name, or from the name to its child
abbrev pub IsNameEdge : List Record → Record → ℕ → Place → Place → Edge → Type 0
IsNameEdge S r offset parent child e =
    IsFolder S r offset parent (placed.At (own_point r offset)) e ⊎ IsFolder S r offset (placed.At (own_point r offset)) child e

-- an edge of the hunk of r whose first position is first
abbrev pub IsEdgeOf : List Record → Record → ℕ → Hunk → Edge → Type 0
IsEdgeOf S r first (File parent name exec) e = IsNameEdge S r first (resolve r parent) (placed.At (own_point r (first + 1))) e
IsEdgeOf S r first (Dir parent name) e = IsNameEdge S r first (resolve r parent) (placed.At (own_point r (first + 1))) e
IsEdgeOf S r first (NameOf parent child name exec) e = IsNameEdge S r first (resolve r parent) (resolve r child) e
IsEdgeOf S r first (Insert file ups downs bytes) e =
    -- from each up to the first vertex of the block
    ((up : Ref) × Contains ups up × IsBlock S r (resolve r up) first e)
    -- from the point before to a later vertex of the block
    ⊎ ((at : ℕ) × (first < at) × (at < first + length bytes) × IsTrue (is_cut S (own_point r at)) × IsBlock S r (placed.At (own_point r (at - 1))) at e)
    -- from the last point of the block to each down
    ⊎ ((down : Ref) × Contains downs down × IsOrder r (placed.At (own_point r (first + length bytes - 1))) (resolve r down) e)
IsEdgeOf S r first (Order file source target) e = IsOrder r (resolve r source) (resolve r target) e
IsEdgeOf S r first (Delete owner start end by) e = ⊥
IsEdgeOf S r first (Revive owner start end by) e = ⊥

-- an edge of S
pub record IsEdge (S : List Record) (e : Edge) : Type 0 where
  pub introducer : Record
  pub member : Contains S introducer
  pub number : ℕ
  pub hunk : Hunk
  pub there : slice_get introducer.change.hunks number ≡ Some hunk
  pub is : IsEdgeOf S introducer (place introducer.change.hunks number) hunk e
