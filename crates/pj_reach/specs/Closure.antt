-- The classes of a graph, and the order between them.
use Rattle.std.specs.Prelude.{◌≡◌, ◌≢◌, ℕ, ◌<◌, Bool, false, List, length, IsTrue, ◌↔◌, slice_index, slice_index_or}
use Rattle.pj_bits.specs.Matrix.{bit}
use Rattle.pj_reach.specs.Reach.{Reaches, InOneClass, IsLeast}

-- for each number its class, for each class whether it is cyclic, and the matrix of the order
pub record Closure : Type 0 where
  pub class_of : List ℕ
  pub cyclic : List Bool
  pub before : List (List Bool)

-- how many numbers there are
abbrev pub size : Closure → ℕ
size r = length r.class_of

-- how many classes there are
abbrev pub classes : Closure → ℕ
classes r = length r.cyclic

-- the class of a number
abbrev pub class_at : Closure → ℕ → ℕ
class_at r a = slice_index r.class_of a

-- whether a class is cyclic
abbrev pub is_cyclic : Closure → ℕ → Bool
is_cyclic r class = slice_index_or r.cyclic class false

-- two numbers have one class exactly where they are one number or each reaches the other
abbrev pub HasStrongClasses : List (ℕ × ℕ) → Closure → Type 0
HasStrongClasses edges r =
    (a b : ℕ) → a < size r → b < size r → (class_at r a ≡ class_at r b) ↔ InOneClass edges a b

-- the classes are 0, 1, .. in the order of their least members
pub record IsNumberedByLeast (edges : List (ℕ × ℕ)) (r : Closure) : Type 0 where
  pub in_range : (a : ℕ) → a < size r → class_at r a < classes r
  pub least : (class : ℕ) → class < classes r → (a : ℕ) × (a < size r) × (class_at r a ≡ class) × IsLeast edges a
  pub rising : (a b : ℕ) → b < size r → a < b → IsLeast edges a → IsLeast edges b → class_at r a < class_at r b

-- a class is cyclic exactly where a member reaches itself, as each member of a class of two or more does
abbrev pub HasCyclicClasses : List (ℕ × ℕ) → Closure → Type 0
HasCyclicClasses edges r = (a : ℕ) → a < size r → IsTrue (is_cyclic r (class_at r a)) ↔ Reaches edges a a

-- a class is before another exactly where a member of the one reaches a member of the other
abbrev pub HasOrder : List (ℕ × ℕ) → Closure → Type 0
HasOrder edges r =
    (a b : ℕ) → a < size r → b < size r
    → IsTrue (bit r.before (class_at r a) (class_at r b)) ↔ ((class_at r a ≢ class_at r b) × Reaches edges a b)

-- no class is before itself, and a class is before all that those are before that it is before
pub record HasStrictOrder (r : Closure) : Type 0 where
  pub irreflexive : (x : ℕ) → IsTrue (bit r.before x x) → ⊥
  pub transitive : (x y z : ℕ) → IsTrue (bit r.before x y) → IsTrue (bit r.before y z) → IsTrue (bit r.before x z)
