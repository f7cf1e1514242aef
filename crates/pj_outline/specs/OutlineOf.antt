-- The outline of a set of changes.
use Rattle.std.specs.Prelude.{List, ◌∷◌, ◌++◌}
use Rattle.pj_change.specs.declared.change.Record.{Record}
use Rattle.pj_change.specs.Lawful.{IsLawful, Follows}
use Rattle.pj_cuts.specs.CutsOf.{AreCutsOf}
use Rattle.pj_edges.specs.OwnRows.{AreRowsOf}
use Rattle.pj_outline.specs.declared.outline.Outline.{Outline}

-- the text is cut where S cuts, and the edges are those of S
pub record IsOutlineOf (S : List Record) (o : Outline) : Type 0 where
  pub cuts : AreCutsOf S o.cuts
  pub edges : AreRowsOf S o.edges

-- the outline of a lawful list that the change may follow
pub record MayTake (o : Outline) (r : Record) : Type 0 where
  pub list : List Record
  pub lawful : IsLawful list
  pub follows : Follows list r
  pub is : IsOutlineOf list o

-- the outline of a lawful list that is lawful without the change
pub record MayLose (o : Outline) (r : Record) : Type 0 where
  pub before : List Record
  pub after : List Record
  pub lawful : IsLawful (before ++ r ∷ after)
  pub left : IsLawful (before ++ after)
  pub is : IsOutlineOf (before ++ r ∷ after) o
