-- What a table shows, and what a state keeps.
use Rattle.pj_dead.specs.PointGraphs.{PointGraph}
use Rattle.pj_dead.specs.Pseudo.{AreRowsOf}
use Rattle.test_tables.specs.declared.dead.table.Table.{Table}
use Rattle.test_tables.specs.declared.dead.state.State.{State}
use Rattle.test_tables.specs.ListedGraphs.{graph_of}

-- its graph
abbrev pub shown : Table → PointGraph
shown t = graph_of t.shapes.items t.arrows.items

-- its rows are those of its graph
abbrev pub AreOwnRows : State → Type 0
AreOwnRows s = AreRowsOf (shown s.table) s.rows
