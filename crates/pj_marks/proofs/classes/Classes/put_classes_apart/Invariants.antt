use Rattle.std.proofs.Common.{◌≡◌, drop, map}
use Rattle.pj_change.specs.MarkedText.{class_at, put_class}
use Rattle.pj_marks.proofs.Folds.{put_others}
use Rattle.pj_marks.proofs.classes.Classes.put_classes_apart.Given as goal

abbrev pub invariant-loop-class : goal.invariant-loop-class
invariant-loop-class g l = put_others l.number (map (λ x. put_class (class_at l.self x)) (drop l.class-index l.others)) l.marker ≡ put_others l.number (map (λ x. put_class (class_at l.self x)) l.others) l.initial.marker
