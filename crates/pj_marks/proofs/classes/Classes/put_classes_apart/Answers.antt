use Rattle.std.proofs.Common.{arith}
use Rattle.pj_change.specs.MarkedText.{class_at, put_class}
use Rattle.pj_marks.proofs.Folds.{all_apart}
use Rattle.pj_marks.proofs.classes.Classes.put_classes_apart.Goals as goal

pub returns-after-loop-class : goal.returns-after-loop-class
returns-after-loop-class g c =
    all_apart (λ x. put_class (class_at c.args.self.now x)) c.args.number c.args.classes.now 0 c.loop-class.class-index c.args.marker.now c.put_class.new.marker c.loop-class.marker
    (omega arith) c.in_ok-put_class.ensures (omega arith) c.loop-class.invariant
