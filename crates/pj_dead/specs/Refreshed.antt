-- When the rows of one graph become those of another.
use Rattle.std.specs.Prelude.{List}
use Rattle.pj_change.specs.declared.point.Point.{Point}
use Rattle.pj_rows.specs.declared.values.Here.{Here}
use Rattle.pj_dead.specs.declared.row.PseudoRow.{PseudoRow}
use Rattle.pj_dead.specs.PointGraphs.{PointGraph, IsWhole}
use Rattle.pj_dead.specs.Pseudo.{AreRowsOf}
use Rattle.pj_dead.specs.Touched.{IsKept, AreTouchedRows}

-- if the rows are those of a graph, the ones that go those across its touched sets and the ones that come those across the touched sets
-- of a graph that differs at touched dead vertices alone, then the new ones are the rows of that graph
abbrev pub Refreshes : List (PseudoRow × Here) → List PseudoRow → List PseudoRow → List (PseudoRow × Here) → Type 0
Refreshes rows gone made new =
    (g h : PointGraph) (touched : List Point) → IsWhole g → IsWhole h → IsKept g h touched → IsKept h g touched →
    AreRowsOf g rows → AreTouchedRows g touched gone → AreTouchedRows h touched made → AreRowsOf h new
