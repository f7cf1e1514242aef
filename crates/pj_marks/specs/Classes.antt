-- The classes of a file, from the strong classes of its vertices and the text of each vertex.
use Rattle.std.specs.Prelude.{ℕ, List, map, nat_eq}
use Rattle.std.specs.List.{filter, range_with_len}
use Rattle.pj_change.specs.MarkedText.{Piece, Class}
use Rattle.pj_reach.specs.Closure.{Closure, size, classes, class_at, is_cyclic}

-- the vertices of a class below n, by rising number
abbrev pub members_below : Closure → ℕ → ℕ → List ℕ
members_below r n class = filter (λ at. nat_eq (class_at r at) class) (range_with_len 0 n)

-- all vertices of a class, by rising number
abbrev pub members : Closure → ℕ → List ℕ
members r class = members_below r (size r) class

-- a class with its text, where each vertex has this piece
abbrev pub class_of : (ℕ → Piece) → Closure → ℕ → Class
class_of piece r class = record { cyclic = is_cyclic r class; pieces = map piece (members r class) }

-- the classes by number
abbrev pub classes_of : (ℕ → Piece) → Closure → List Class
classes_of piece r = map (class_of piece r) (range_with_len 0 (classes r))
