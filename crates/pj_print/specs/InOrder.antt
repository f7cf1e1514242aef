-- The text of vertices one after the other.
use Rattle.std.specs.Prelude.{ℕ, List, [], None, map}
use Rattle.pj_change.specs.MarkedText.{Piece, Marking, close_run, put_piece, put_each}

-- no text
abbrev pub no_marking : Marking
no_marking = record { bytes = []; started = 0; run = None }

-- the vertices with these numbers, with the markers of their zombie runs
abbrev pub text_in_order : (ℕ → Piece) → List ℕ → List ℕ
text_in_order piece order = (close_run (put_each (map (λ at. put_piece (piece at)) order) no_marking)).bytes
