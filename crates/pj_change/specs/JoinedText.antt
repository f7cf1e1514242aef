-- What joins the live text of a file in a set S.
use Rattle.std.specs.Prelude.{List}
use Rattle.pj_change.specs.declared.point.Point.{Point}
use Rattle.pj_change.specs.declared.graph.Vertex.{Vertex}
use Rattle.pj_change.specs.declared.change.Record.{Record}
use Rattle.pj_change.specs.AcrossDead.{IsAcross, IsAmong}
use Rattle.pj_change.specs.Before.{Leads, IsDeadText}
use Rattle.pj_change.specs.PseudoRows.{HasEdgeOrRow}
use Rattle.pj_change.specs.FileText.{IsLiveIn}

-- in the file with this inode, an edge or a path across dead text alone leads from live text to live text
abbrev pub IsJoinedAcross : List Record → Point → Vertex → Vertex → Type 0
IsJoinedAcross S inode = IsAmong (IsLiveIn S inode) (IsAcross (Leads S) (IsDeadText S))

-- in the file with this inode, an edge or a row leads from live text to live text
abbrev pub IsJoinedByRow : List Record → Point → Vertex → Vertex → Type 0
IsJoinedByRow S inode = IsAmong (IsLiveIn S inode) (HasEdgeOrRow S)
