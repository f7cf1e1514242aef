-- The hunk that made what stands at a position.
use Rattle.std.specs.Prelude.{ℕ}
use Rattle.pj_change.specs.declared.kind.Kind.{Kind}
use Rattle.pj_change.specs.declared.kind.Kind.TheVariants.{NameAt, FileInode, DirInode, Text}

-- its number, counted from 0
abbrev pub maker : Kind → ℕ
maker (NameAt hunk) = hunk
maker (FileInode hunk) = hunk
maker (DirInode hunk) = hunk
maker (Text hunk first past) = hunk
