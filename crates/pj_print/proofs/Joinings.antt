-- What joins live text, two ways of it: across dead text, and by an edge or a row.
use Rattle.std.specs.Prelude.{List}
use Rattle.pj_change.specs.declared.point.Point.{Point}
use Rattle.pj_change.specs.declared.change.Record.{Record}
use Rattle.pj_change.specs.AcrossDead.{IsAcross}
use Rattle.pj_change.specs.PseudoRows.{HasEdgeOrRow}
use Rattle.pj_change.specs.Before.{Leads, IsDeadText}
use Rattle.pj_change.specs.Lawful.{IsLawfulSet}
use Rattle.pj_change.proofs.BeforeRows.{before_across_in_file, before_rows_in_file}
use Rattle.pj_print.specs.JoinedPairs.{TellsBefore}

-- an edge or a path across dead text tells what is before
pub across_tells : (S : List Record) → IsLawfulSet S → (inode : Point) → TellsBefore (IsAcross (Leads S) (IsDeadText S)) S inode
across_tells S set inode u v a b = before_across_in_file S set inode u v a b

-- so does an edge or a row
pub rows_tell : (S : List Record) → IsLawfulSet S → (inode : Point) → TellsBefore (HasEdgeOrRow S) S inode
rows_tell S set inode u v a b = before_rows_in_file S set inode u v a b
