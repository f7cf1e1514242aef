use Rattle.std.proofs.Common.{◌≡◌, drop, map}
use Rattle.pj_change.specs.MarkedText.{put_each, put_shape}
use Rattle.pj_layout.specs.Shapes.{shape}
use Rattle.pj_marks.proofs.Folds.{put_others}
use Rattle.pj_marks.proofs.classes.Classes.+put_layout.Given as goal

abbrev pub invariant-put_series-loop-part : goal.invariant-put_series-loop-part
invariant-put_series-loop-part g l = put_each (map (λ part. put_shape l.self (shape part)) (drop l.part-index l.parts)) l.marker ≡ put_each (map (λ part. put_shape l.self (shape part)) l.parts) l.initial.marker

abbrev pub invariant-put_layouts_apart-loop-part : goal.invariant-put_layouts_apart-loop-part
invariant-put_layouts_apart-loop-part g l = put_others l.number (map (λ part. put_shape l.self (shape part)) (drop l.part-index l.others)) l.marker ≡ put_others l.number (map (λ part. put_shape l.self (shape part)) l.others) l.initial.marker
