-- Points inside the blocks of a table of cuts, and the rows that come or go with cuts there.
use Rattle.std.specs.Prelude.{◌≡◌, ◌↔◌, ℕ, ◌<◌, List, Contains, ◌⊎◌}
use Rattle.pj_change.specs.declared.point.Point.{Point}
use Rattle.pj_change.specs.declared.row.EdgeRow.{EdgeRow}
use Rattle.pj_cuts.specs.Counted.{Counted, count_at, InBlock, InNoBlock}
use Rattle.pj_edges.specs.OwnRows.{row_before}

-- a block has the point after its first one
pub record IsInside (c : Counted) (p : Point) : Type 0 where
  pub first : ℕ
  pub past : ℕ
  pub block : InBlock c p.change p.offset first past
  pub after : first < p.offset

-- no block has the point, or one begins there
abbrev pub IsNotInside : Counted → Point → Type 0
IsNotInside c p = InNoBlock c p.change p.offset ⊎ ((past : ℕ) × InBlock c p.change p.offset p.offset past)

-- those of the points before which no cut stands
abbrev pub AreUncut : Counted → List Point → List Point → Type 0
AreUncut c points list = (p : Point) → Contains list p ↔ (Contains points p × (count_at c p ≡ 0))

-- those of the points that a block has after its first one
pub record AreInside (c : Counted) (points list : List Point) : Type 0 where
  pub only : (p : Point) → Contains list p → Contains points p × IsInside c p
  pub all : (p : Point) → Contains points p → IsNotInside c p ⊎ Contains list p

-- the row leads to the point inside a block of the one table, and the other one counts no cut before it
pub record IsRowOnceCut (fewer more : Counted) (p : Point) (row : EdgeRow) : Type 0 where
  pub uncut : count_at fewer p ≡ 0
  pub inside : IsInside more p
  pub is : row ≡ row_before p

-- there is no such row
abbrev pub HasNoRowOnceCut : Counted → Counted → Point → Type 0
HasNoRowOnceCut fewer more p = count_at fewer p ≡ 0 → IsNotInside more p

-- the rows are those of these points
pub record AreRowsOnceCut (fewer more : Counted) (points : List Point) (rows : List EdgeRow) : Type 0 where
  pub each : (row : EdgeRow) → Contains rows row → (p : Point) × Contains points p × IsRowOnceCut fewer more p row
  pub all : (p : Point) → Contains points p → HasNoRowOnceCut fewer more p ⊎ Contains rows (row_before p)
