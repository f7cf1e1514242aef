-- The marked text of a layout: a fold over it (the marker lines are this project's own).
use Rattle.std.specs.Prelude.{ℕ, suc, Bool, true, false, List, [], ◌∷◌, ◌++◌, map, codes, decimal, nat_eq, Option, Some, None, if◌then◌else◌}
use Rattle.std.specs.List.{slice_index_or}
use Rattle.pj_change.specs.Layout.{Shape, Shapes, One, Series, Sides, Tangle, none, more}

-- a live vertex: whether it is a zombie, and its bytes
pub record Piece : Type 0 where
  pub zombie : Bool
  pub bytes : List ℕ

-- a class: whether it is cyclic, and its vertices by first point
pub record Class : Type 0 where
  pub cyclic : Bool
  pub pieces : List Piece

-- the bytes so far, how many markers were started, and the number of the zombie run that stands open
pub record Marking : Type 0 where
  pub bytes : List ℕ
  pub started : ℕ
  pub run : Option ℕ

-- ---- marker lines

-- the bytes are none, or end with a newline
abbrev pub ends_line : List ℕ → Bool
ends_line [] = true
ends_line (b ∷ []) = nat_eq b 10
ends_line (b ∷ c ∷ bs) = ends_line (c ∷ bs)

-- more bytes
abbrev pub append : Marking → List ℕ → Marking
append m bytes = record m { bytes = m.bytes ++ bytes }

-- a marker line: a newline where the last byte is none, then the line
abbrev pub put_marker : Marking → List ℕ → Marking
put_marker m text = append m ((if ends_line m.bytes then [] else 10 ∷ []) ++ text ++ 10 ∷ [])

-- a new number, and the marker line that starts with it
abbrev pub start : List ℕ → Marking → Marking
start word m = put_marker (record m { started = suc m.started }) (codes ">>>>>>> " ++ decimal (suc m.started) ++ word)

-- the marker line that ends it
abbrev pub end : ℕ → Marking → Marking
end k m = put_marker m (codes "<<<<<<< " ++ decimal k)

-- ---- zombie runs

-- the run of this number, if there is one, is closed
abbrev pub close_as : Option ℕ → Marking → Marking
close_as None m = m
close_as (Some k) m = end k (record m { run = None })

-- an open run is closed
abbrev pub close_run : Marking → Marking
close_run m = close_as m.run m

-- a run is opened, if this is the number of none
abbrev pub open_as : Option ℕ → Marking → Marking
open_as None m = start (codes " zombie") (record m { run = Some (suc m.started) })
open_as (Some k) m = m

-- a run is opened where none is open
abbrev pub open_run : Marking → Marking
open_run m = open_as m.run m

-- a live vertex: a zombie within a run, any other outside
abbrev pub put_piece : Piece → Marking → Marking
put_piece p m = append (if p.zombie then open_run m else close_run m) p.bytes

-- ---- members

-- one after the other
abbrev pub put_each : List (Marking → Marking) → Marking → Marking
put_each [] m = m
put_each (put ∷ puts) m = put_each puts (put m)

-- with the marker line `=======` of this number between each two
abbrev pub put_apart : ℕ → List (Marking → Marking) → Marking → Marking
put_apart k [] m = m
put_apart k (put ∷ []) m = put m
put_apart k (put ∷ next ∷ puts) m = put_apart k (next ∷ puts) (put_marker (close_run (put m)) (codes "======= " ++ decimal k))

-- between the marker lines of a new number; before each an open run is closed
abbrev pub put_group : List ℕ → List (Marking → Marking) → Marking → Marking
put_group word puts m = end (suc m.started) (close_run (put_apart (suc m.started) puts (start word (close_run m))))

-- ---- the fold

-- a class that is not cyclic is its one vertex
abbrev pub put_class : Class → Marking → Marking
put_class c = if c.cyclic then put_group (codes " cycle") (map put_piece c.pieces) else put_each (map put_piece c.pieces)

-- the class of this number
abbrev pub class_at : List Class → ℕ → Class
class_at classes x = slice_index_or classes x (record { cyclic = false; pieces = [] })

abbrev mutual
  -- a layout: a class, its parts one after the other, or a group of sides or of classes in a tangle
  pub put_shape : List Class → Shape → Marking → Marking
  put_shape classes (One x) = put_class (class_at classes x)
  put_shape classes (Series shapes) = put_each (put_shapes classes shapes)
  put_shape classes (Sides shapes) = put_group [] (put_shapes classes shapes)
  put_shape classes (Tangle xs) = put_group (codes " tangle") (map (λ x. put_class (class_at classes x)) xs)

  -- each layout of a list
  pub put_shapes : List Class → Shapes → List (Marking → Marking)
  put_shapes classes none = []
  put_shapes classes (more s ss) = put_shape classes s ∷ put_shapes classes ss

-- the marked text of a layout
abbrev pub marked : List Class → Shape → List ℕ
marked classes shape = (close_run (put_shape classes shape (record { bytes = []; started = 0; run = None }))).bytes
