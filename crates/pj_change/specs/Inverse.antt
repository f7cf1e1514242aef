-- The inverse of a change: the change that undoes what c does, hunk by hunk.
use Rattle.std.specs.Prelude.{◌≡◌, ℕ, suc, ◌+◌, ◌<◌, ◌≤◌, List, [], ◌∷◌, ◌++◌, length, take, codes, Some, Contains, slice_get}
use Rattle.pj_name.specs.declared.name.Name.{Name}
use Rattle.pj_name.specs.Name.{hex, name_cmp}
use Rattle.pj_change.specs.declared.limits.TheConstants.{MOST_NEEDS}
use Rattle.pj_change.specs.declared.hunk.Hunk.{Hunk}
use Rattle.pj_change.specs.declared.hunk.Hunk.TheVariants.{File, Dir, NameOf, Insert, Order, Delete, Revive}
use Rattle.pj_change.specs.declared.change.Change.{Change}
use Rattle.pj_change.specs.declared.change.Record.{Record}
use Rattle.pj_change.specs.Positions.{numbered}
use Rattle.pj_change.specs.Rules.{position_count}
use Rattle.pj_change.specs.Graph.{Lists}

-- a need of the inverse of these hunks of c: c itself, and each change whose text or name they delete
pub data IsInverseNeed (c : Record) (hunks : List Hunk) : Name → Type 0 where
  itself : IsInverseNeed c hunks c.name
  deleted : {owner start end : ℕ} {by : List ℕ} → Contains hunks (Delete owner start end by) → IsInverseNeed c hunks (numbered c owner)

-- the needs, in order
abbrev pub AreInverseNeeds : Record → List Hunk → List Name → Type 0
AreInverseNeeds c hunks needs = Lists name_cmp (IsInverseNeed c hunks) needs

-- the k-th of these needs, counted from 1, is this name
abbrev pub IsNumberOf : List Name → Name → ℕ → Type 0
IsNumberOf needs name k = (i : ℕ) × (k ≡ suc i) × (slice_get needs i ≡ Some name)

-- a `delete` of the positions of c from start up to and without end, by c
abbrev pub DeletesOwn : Record → List Name → ℕ → ℕ → Hunk → Type 0
DeletesOwn c needs start end g = (k : ℕ) × IsNumberOf needs c.name k × (g ≡ Delete k start end (k ∷ []))

-- the hunk g undoes a hunk of c whose first position is first
abbrev pub Undoes : Record → List Name → ℕ → Hunk → Hunk → Type 0
-- it deletes a name
Undoes c needs first (File parent name exec) g = DeletesOwn c needs first (first + 1) g
Undoes c needs first (Dir parent name) g = DeletesOwn c needs first (first + 1) g
Undoes c needs first (NameOf parent child name exec) g = DeletesOwn c needs first (first + 1) g
-- it deletes a block
Undoes c needs first (Insert file ups downs bytes) g = DeletesOwn c needs first (first + length bytes) g
-- it revives what was deleted by its owner alone
Undoes c needs first (Delete owner start end by) g =
    (by ≡ owner ∷ []) × (k : ℕ) × (l : ℕ) × IsNumberOf needs (numbered c owner) k × IsNumberOf needs c.name l × (g ≡ Revive k start end (l ∷ []))
-- nothing undoes these
Undoes c needs first (Order file source target) g = ⊥
Undoes c needs first (Revive owner start end by) g = ⊥

-- the hunks gs undo the hunks hs of c, one by one, the first of which has this first position
abbrev pub UndoEach : Record → List Name → ℕ → List Hunk → List Hunk → Type 0
UndoEach c needs first [] gs = gs ≡ []
UndoEach c needs first (h ∷ hs) [] = ⊥
UndoEach c needs first (h ∷ hs) (g ∷ gs) = Undoes c needs first h g × UndoEach c needs (first + position_count h) hs gs

-- v is the inverse of c
pub record IsInverse (c : Record) (v : Change) : Type 0 where
  pub version : v.version ≡ 2
  pub message : v.message ≡ codes "inverse " ++ hex c.name.bytes
  pub author : v.author ≡ c.change.author
  pub time : v.time ≡ c.change.time
  pub needs : AreInverseNeeds c c.change.hunks v.needs
  pub knows : v.knows ≡ []
  pub hunks : UndoEach c v.needs 0 c.change.hunks v.hunks

-- ---- hunks without an inverse

-- a kind of hunk that can be undone
abbrev pub IsUndoable : Hunk → Type 0
IsUndoable (Delete owner start end by) = by ≡ owner ∷ []
IsUndoable (Order file source target) = ⊥
IsUndoable (Revive owner start end by) = ⊥
IsUndoable h = Unit {0}

-- hunk k of c has an inverse: it can be undone, and the hunks up to it give no more needs than a change has
pub record HasInverse (c : Record) (k : ℕ) : Type 0 where
  pub hunk : Hunk
  pub there : slice_get c.change.hunks k ≡ Some hunk
  pub undoable : IsUndoable hunk
  pub needs : List Name
  pub needs_are : AreInverseNeeds c (take (suc k) c.change.hunks) needs
  pub few : length needs ≤ MOST_NEEDS

-- hunk k is the first of c without an inverse
pub record IsFirstWithoutInverse (c : Record) (k : ℕ) : Type 0 where
  pub within : k < length c.change.hunks
  pub without : HasInverse c k → ⊥
  pub before : (j : ℕ) → j < k → HasInverse c j
