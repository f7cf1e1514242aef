-- The vertices of text that a table of cuts shows: what lies in a block between two neighbours of its cuts and ends.
use Rattle.std.specs.Prelude.{◌≡◌, ℕ, ◌+◌, ◌<◌, ◌≤◌, true, false, ◌⊎◌}
use Rattle.pj_name.specs.declared.name.Name.{Name}
use Rattle.pj_cuts.specs.Counted.{Counted, at_offset, length_at, is_counted, InBlock}

-- a vertex begins at this position of the block that begins with first
abbrev pub Begins : Counted → Name → ℕ → ℕ → Type 0
Begins c n first at = (at ≡ first) ⊎ (is_counted c n at ≡ true)

-- the vertex from start up to end, in the block from first up to past
pub record IsRunOf (c : Counted) (n : Name) (start end first past : ℕ) : Type 0 where
  pub nonempty : start < end
  pub begins : Begins c n first start
  pub ends : (end ≡ past) ⊎ (is_counted c n end ≡ true)
  pub inside : (first ≤ start) × (end ≤ past)
  pub uncut : (k : ℕ) → start < k → k < end → is_counted c n k ≡ false
  pub block : first + length_at c (at_offset n first) ≡ past

-- the vertex from start up to end has the position
pub record IsVertexAt (c : Counted) (n : Name) (at start end : ℕ) : Type 0 where
  pub from : start ≤ at
  pub upto : at < end
  pub first : ℕ
  pub past : ℕ
  pub run : IsRunOf c n start end first past

-- a vertex begins at this position
pub record IsBegin (c : Counted) (n : Name) (o : ℕ) : Type 0 where
  pub first : ℕ
  pub past : ℕ
  pub block : InBlock c n o first past
  pub begins : Begins c n first o

-- the first vertex that begins at this position or after it
pub record IsNextVertex (c : Counted) (n : Name) (from start end : ℕ) : Type 0 where
  pub low : from ≤ start
  pub first : ℕ
  pub past : ℕ
  pub run : IsRunOf c n start end first past
  pub least : (o : ℕ) → from ≤ o → o < start → IsBegin c n o → ⊥

-- no vertex begins there or after it
abbrev pub IsPastAll : Counted → Name → ℕ → Type 0
IsPastAll c n from = (o : ℕ) → from ≤ o → IsBegin c n o → ⊥
