-- What a change touches in a list without it, before there is a list with it.
use Rattle.std.specs.Prelude.{List}
use Rattle.pj_change.specs.declared.change.Record.{Record}
use Rattle.pj_dead.specs.Touched.{AreTouchedRows}
use Rattle.pj_view.specs.declared.rows.Touched.{Touched}
use Rattle.pj_view.specs.SetGraph.{graph_of}
use Rattle.pj_view.specs.Touched.{AreTouchedBy}

-- the points are enough for each list with c, and the rows are those across the dead sets of S that have one of them
pub record IsTouchedBy (S : List Record) (c : Record) (touched : Touched) : Type 0 where
  pub points : AreTouchedBy S c touched.points.items
  pub rows : AreTouchedRows (graph_of S) touched.points.items touched.rows.items
