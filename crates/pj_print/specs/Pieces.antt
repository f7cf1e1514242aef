-- The texts of live vertices in a set S.
use Rattle.std.specs.Prelude.{ℕ, Bool, true, false, List, [], ◌∷◌, Option, Some, None, if◌then◌else◌, slice_get}
use Rattle.pj_name.specs.Name.{same_name}
use Rattle.pj_change.specs.declared.graph.Status.{Status}
use Rattle.pj_change.specs.declared.graph.Status.TheVariants.{Alive, Dead, Zombie}
use Rattle.pj_change.specs.declared.graph.Vertex.{Vertex}
use Rattle.pj_change.specs.declared.change.Record.{Record}
use Rattle.pj_change.specs.FileText.{bytes_of}
use Rattle.pj_change.specs.MarkedText.{Piece}

-- the status is that of a zombie
abbrev pub is_zombie : Status → Bool
is_zombie Zombie = true
is_zombie Alive = false
is_zombie Dead = false

-- the bytes of the vertex, from the first change of its name
abbrev pub bytes_in : List Record → Vertex → List ℕ
bytes_in [] v = []
bytes_in (r ∷ rs) v = if same_name r.name v.change then bytes_of r.change.hunks v else bytes_in rs v

-- the vertex as it is written
abbrev pub piece_of : List Record → Vertex → Piece
piece_of S v = record { zombie = is_zombie v.status; bytes = bytes_in S v }

-- the vertex as it is written; nothing is where there is none
abbrev pub piece_by : List Record → Option Vertex → Piece
piece_by S (Some v) = piece_of S v
piece_by S None = record { zombie = false; bytes = [] }

-- the vertex of a list with this number as it is written
abbrev pub piece_at : List Record → List Vertex → ℕ → Piece
piece_at S live at = piece_by S (slice_get live at)
