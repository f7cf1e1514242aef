use Rattle.std.proofs.Common.{◌≡◌, drop, map}
use Rattle.pj_change.specs.MarkedText.{put_piece}
use Rattle.pj_marks.proofs.Folds.{put_others}
use Rattle.pj_marks.proofs.marker.Marker.put_apart.Given as goal

abbrev pub invariant-loop-at : goal.invariant-loop-at
invariant-loop-at g l = put_others l.number (map (λ at. put_piece (g.T.Texts.piece l.texts at)) (drop l.at-index l.others)) l.self ≡ put_others l.number (map (λ at. put_piece (g.T.Texts.piece l.texts at)) l.others) l.initial.self
