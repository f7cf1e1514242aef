use Rattle.std.proofs.Common.{arith}
use Rattle.pj_change.specs.MarkedText.{put_piece}
use Rattle.pj_marks.proofs.Folds.{all_apart}
use Rattle.pj_marks.proofs.marker.Marker.put_apart.Goals as goal

pub returns-after-loop-at : goal.returns-after-loop-at
returns-after-loop-at g c =
    all_apart (λ at. put_piece (g.T.Texts.piece c.args.texts.now at)) c.args.number c.args.members.now 0 c.loop-at.at-index c.args.self.now c.put_piece.new.self c.loop-at.self
    (omega arith) c.in_ok-put_piece.ensures (omega arith) c.loop-at.invariant
