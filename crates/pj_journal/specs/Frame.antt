-- A frame is the bytes that stand behind the gate of one string.
use Rattle.std.specs.Prelude.{◌≡◌, ℕ, ◌-◌, List, length, take, drop}
use Rattle.pj_journal.specs.Format.{framed, IsStorable}

-- the string in a frame
abbrev pub framed_string : List ℕ → List ℕ
framed_string frame = take (length frame - 9) (drop 8 frame)

-- the bytes are the frame of a string that can be stored
pub record IsFrame (frame : List ℕ) : Type 0 where
  pub storable : IsStorable (framed_string frame)
  pub whole : frame ≡ framed (framed_string frame)
