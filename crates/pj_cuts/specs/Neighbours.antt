-- Neighbours of a position among the cuts and the blocks of its change.
use Rattle.std.specs.Prelude.{◌≡◌, ℕ, ◌+◌, ◌<◌, ◌≤◌, true, false, ◌⊎◌}
use Rattle.pj_name.specs.declared.name.Name.{Name}
use Rattle.pj_cuts.specs.Counted.{Counted, at_offset, length_at, is_counted}
use Rattle.pj_cuts.specs.CountedVertices.{Begins, IsRunOf}

-- ---- cuts

-- the greatest counted position that is not above this one
pub record IsLastCut (c : Counted) (n : Name) (at o : ℕ) : Type 0 where
  pub low : o ≤ at
  pub counted : is_counted c n o ≡ true
  pub last : (k : ℕ) → o < k → k ≤ at → is_counted c n k ≡ false

-- the least counted position above this one
pub record IsNextCut (c : Counted) (n : Name) (at o : ℕ) : Type 0 where
  pub above : at < o
  pub counted : is_counted c n o ≡ true
  pub first : (k : ℕ) → at < k → k < o → is_counted c n k ≡ false

-- ---- ends of vertices

-- the greatest beginning of a vertex that is not above this position, in the block that begins with first
pub record IsStart (c : Counted) (n : Name) (at first o : ℕ) : Type 0 where
  pub inside : first ≤ o
  pub low : o ≤ at
  pub begins : Begins c n first o
  pub last : (k : ℕ) → o < k → k ≤ at → is_counted c n k ≡ false

-- the least end of a vertex above this position, in the block that ends at past
pub record IsEnd (c : Counted) (n : Name) (at past o : ℕ) : Type 0 where
  pub above : at < o
  pub inside : o ≤ past
  pub ends : (o ≡ past) ⊎ (is_counted c n o ≡ true)
  pub first : (k : ℕ) → at < k → k < o → is_counted c n k ≡ false

-- ---- blocks

-- no block begins above this position
abbrev pub NoBlockAfter : Counted → Name → ℕ → Type 0
NoBlockAfter c n at = (o : ℕ) → at < o → length_at c (at_offset n o) ≡ 0

-- the block from first up to past is the next one that begins above this position
pub record IsNextBlock (c : Counted) (n : Name) (at first past : ℕ) : Type 0 where
  pub above : at < first
  pub some : first < past
  pub block : first + length_at c (at_offset n first) ≡ past
  pub least : (o : ℕ) → at < o → o < first → length_at c (at_offset n o) ≡ 0

-- and its first vertex
pub record IsFirstOfNext (c : Counted) (n : Name) (at start end : ℕ) : Type 0 where
  pub above : at < start
  pub past : ℕ
  pub run : IsRunOf c n start end start past
  pub least : (o : ℕ) → at < o → o < start → length_at c (at_offset n o) ≡ 0
