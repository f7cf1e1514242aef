use Rattle.std.proofs.Common.{rules, length, ◌≡◌, OnOk, subst, ◌∙◌, ap, arith}
use Rattle.pj_marks.proofs.Shapes.{series_below, sides_below, series_put, sides_put}
use Rattle.pj_marks.proofs.Folds.{all_apart}
use Rattle.pj_change.specs.MarkedText.{put_shape}
use Rattle.pj_layout.specs.declared.layout.Layout.{Layout}
use Rattle.pj_layout.specs.declared.layout.Layout.TheViews.{the_lemmas}
use Rattle.pj_layout.specs.Shapes.{shape}
use Rattle.pj_marks.proofs.classes.Classes.+put_layout.Goals as goal

pub put_layout-put_series-requires : goal.put_layout-put_series-requires
put_layout-put_series-requires g t c κs within =
    (search (rules, the_lemmas), (search rules, series_below c.args.layout.now c.in-Series.parts c.deref.result.now c.deref.ensures.value (length c.args.self.now) c.in-Series.is c.requires))

pub put_layout-put_sides-requires : goal.put_layout-put_sides-requires
put_layout-put_sides-requires g t c κs within =
    (search (rules, the_lemmas), (search rules, sides_below c.args.layout.now c.in-Sides.parts c.deref-in-Sides.result.now c.deref-in-Sides.ensures.value (length c.args.self.now) c.in-Sides.is c.requires))

pub put_layout-returns-in-Series : goal.put_layout-returns-in-Series
put_layout-returns-in-Series g t c =
    subst (λ m. OnOk c.put_series.result (c.put_series.new.marker ≡ m))
    (series_put c.args.layout.now c.in-Series.parts c.deref.result.now c.deref.ensures.value c.args.self.now c.args.marker.now c.in-Series.is) c.put_series.ensures

pub put_layout-returns-in-Sides : goal.put_layout-returns-in-Sides
put_layout-returns-in-Sides g t c =
    subst (λ m. OnOk c.put_sides.result (c.put_sides.new.marker ≡ m))
    (sides_put c.args.layout.now c.in-Sides.parts c.deref-in-Sides.result.now c.deref-in-Sides.ensures.value c.args.self.now c.args.marker.now c.in-Sides.is) c.put_sides.ensures

pub put_layouts_apart-returns-after-loop-part : goal.put_layouts_apart-returns-after-loop-part
put_layouts_apart-returns-after-loop-part g t c =
    all_apart (λ part. put_shape c.args.self.now (shape part)) c.args.number c.args.parts.now c.first-item.result c.loop-part.part-index c.args.marker.now c.put_layout.new.marker c.loop-part.marker
    (omega arith) (c.in_ok-put_layout.ensures ∙ ap (λ (part : Layout). put_shape c.args.self.now (shape part) c.args.marker.now) c.first-item.is) (omega arith) c.loop-part.invariant
