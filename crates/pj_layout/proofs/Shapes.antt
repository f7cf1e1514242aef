-- The shapes of layouts.
use Rattle.std.proofs.Common.{◌≡◌, ℕ, map, Vec, Global, sym, ◌∙◌, ap}
use Rattle.pj_change.specs.Layout.{Shape}
use Rattle.pj_change.specs.Layout as shapes
use Rattle.pj_layout.specs.declared.layout.Layout.{Layout, Series, Sides, Tangle}
use Rattle.pj_layout.specs.declared.layout.Layout.TheVariants.{rolls-Series, rolls-Sides, rolls-Tangle}
use Rattle.pj_layout.specs.declared.layout.Layout.TheFolds.{fold-roll-Layout}
use Rattle.pj_layout.specs.Shapes.{shape, shape_step, shapes_of}

pub series_shape : (parts : Vec Layout Global) → shape (Series parts) ≡ shapes.Series (shapes_of (map shape parts.items))
series_shape parts = ap shape (sym (rolls-Series parts)) ∙ fold-roll-Layout Shape shape_step _

pub sides_shape : (parts : Vec Layout Global) → shape (Sides parts) ≡ shapes.Sides (shapes_of (map shape parts.items))
sides_shape parts = ap shape (sym (rolls-Sides parts)) ∙ fold-roll-Layout Shape shape_step _

pub tangle_shape : (classes : Vec ℕ Global) → shape (Tangle classes) ≡ shapes.Tangle classes.items
tangle_shape classes = ap shape (sym (rolls-Tangle classes)) ∙ fold-roll-Layout Shape shape_step _
