-- The order between classes, row by row.
use Rattle.std.specs.Prelude.{◌≡◌, ◌≢◌, ℕ, ◌<◌, Bool, true, List, length, slice_index, ◌↔◌}
use Rattle.pj_bits.specs.Matrix.{bit}
use Rattle.pj_reach.specs.Reach.{Reaches, InOneClass}
use Rattle.pj_reach.specs.Links.{source, target}

-- the classes are the strong classes
pub record HasClasses (size : ℕ) (edges : List (ℕ × ℕ)) (class_of : List ℕ) (classes : ℕ) : Type 0 where
  pub in_range : (a : ℕ) → a < size → slice_index class_of a < classes
  pub one_class : (a b : ℕ) → a < size → b < size → (slice_index class_of a ≡ slice_index class_of b) ↔ InOneClass edges a b

-- each bit that is set says the truth
abbrev pub IsSound : ℕ → List (ℕ × ℕ) → List ℕ → List (List Bool) → Type 0
IsSound size edges class_of rows =
    (a b : ℕ) → a < size → b < size → bit rows (slice_index class_of a) (slice_index class_of b) ≡ true
    → (slice_index class_of a ≢ slice_index class_of b) × Reaches edges a b

-- what lies behind an edge between different classes stands in the row of the class that it leaves
pub record IsDone (size : ℕ) (edges : List (ℕ × ℕ)) (class_of : List ℕ) (rows : List (List Bool)) (e : ℕ) : Type 0 where
  pub direct : slice_index class_of (source edges e) ≢ slice_index class_of (target edges e)
      → bit rows (slice_index class_of (source edges e)) (slice_index class_of (target edges e)) ≡ true
  pub behind : slice_index class_of (source edges e) ≢ slice_index class_of (target edges e)
      → (b : ℕ) → b < size → Reaches edges (target edges e) b → slice_index class_of (target edges e) ≢ slice_index class_of b
      → bit rows (slice_index class_of (source edges e)) (slice_index class_of b) ≡ true

-- what was done stays done
abbrev pub KeepsDone : ℕ → List (ℕ × ℕ) → List ℕ → List (List Bool) → List (List Bool) → Type 0
KeepsDone size edges class_of old new = (e : ℕ) → IsDone size edges class_of old e → IsDone size edges class_of new e

-- the edges that leave v are done
abbrev pub IsDoneAt : ℕ → List (ℕ × ℕ) → List ℕ → List (List Bool) → ℕ → Type 0
IsDoneAt size edges class_of rows v = (e : ℕ) → e < length edges → source edges e ≡ v → IsDone size edges class_of rows e

-- where an edge leads from v to another class, the edges that leave that class are done
abbrev pub IsDoneBehind : ℕ → List (ℕ × ℕ) → List ℕ → List (List Bool) → ℕ → Type 0
IsDoneBehind size edges class_of rows v =
    (e f : ℕ) → e < length edges → source edges e ≡ v → f < length edges
    → slice_index class_of (source edges f) ≡ slice_index class_of (target edges e)
    → slice_index class_of (source edges f) ≢ slice_index class_of v
    → IsDone size edges class_of rows f

-- the bit of two members' classes is set exactly where the classes differ and the one member reaches the other
abbrev pub IsOrdered : ℕ → List (ℕ × ℕ) → List ℕ → List (List Bool) → Type 0
IsOrdered size edges class_of rows =
    (a b : ℕ) → a < size → b < size → (bit rows (slice_index class_of a) (slice_index class_of b) ≡ true)
    ↔ ((slice_index class_of a ≢ slice_index class_of b) × Reaches edges a b)
