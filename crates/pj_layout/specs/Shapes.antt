-- The shape that a layout has.
use Rattle.std.specs.Prelude.{List, [], ◌∷◌}
use Rattle.pj_change.specs.Layout.{Shape, Shapes, One, Series, Sides, Tangle, none, more}
use Rattle.pj_layout.specs.declared.layout.Layout.{Layout, fold-Layout}
use Rattle.pj_layout.specs.declared.layout.Layout.TheOpen.{Layout-F}

-- shapes as the list that a shape holds
abbrev pub shapes_of : List Shape → Shapes
shapes_of [] = none
shapes_of (s ∷ ss) = more s (shapes_of ss)

-- one level, where each layout inside is seen as its shape
abbrev pub shape_step : Layout-F Shape → Shape
shape_step (Layout-F.One class) = One class
shape_step (Layout-F.Series parts) = Series (shapes_of parts.items)
shape_step (Layout-F.Sides parts) = Sides (shapes_of parts.items)
shape_step (Layout-F.Tangle classes) = Tangle classes.items

-- the shape of a layout
abbrev pub shape : Layout → Shape
shape = fold-Layout Shape shape_step
