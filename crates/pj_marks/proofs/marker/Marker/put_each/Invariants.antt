use Rattle.std.proofs.Common.{◌≡◌, drop, map}
use Rattle.pj_change.specs.MarkedText.{put_each, put_piece}
use Rattle.pj_marks.proofs.marker.Marker.put_each.Given as goal

abbrev pub invariant-loop-at : goal.invariant-loop-at
invariant-loop-at g l = put_each (map (λ at. put_piece (g.T.Texts.piece l.texts at)) (drop l.at-index l.members)) l.self ≡ put_each (map (λ at. put_piece (g.T.Texts.piece l.texts at)) l.members) l.initial.self
